use Rattle.std.proofs.Common.{false, None, inl, refl}
use Rattle.tool_prometheus.specs.declared.answering.Served.{Served}
use Rattle.tool_prometheus.specs.Asked.{then_asked}
use Rattle.tool_prometheus.proofs.AskedLemmas.{asks_before, asks_then}
use Rattle.tool_prometheus.proofs.commands.serve_new.Goals as goal

pub returns : goal.returns
returns g c = λ begin begins.
    let (first, starts, gave) = c.started-timer.ensures in
    let (read, text, more, took, wrote, asks, ran) = c.serve-answered.ensures in
    let start : Served = record {
      exporter = c.args.exporter;
      naming = c.args.options.naming;
      dialect = c.args.options.dialect;
      front = c.front_of.result;
      has_file = c.args.options.has_file;
      rules = c.args.rules;
      at_scrapes_only = c.args.options.at_scrapes_only;
      timer = c.started-timer.result;
      max_series = c.args.options.max_series;
      is_strict = c.args.options.is_strict;
      tells_self = c.args.options.tells_self;
      counts = c.new.result;
      last = None;
      is_changed = false;
      has_bad = false;
      has_failed = false;
    } in (
      read,
      text,
      then_asked first more,
      took,
      wrote,
      asks_before _ _ _ (then_asked first more) (asks_then _ _ _ first more gave asks) c.final_status-status.ensures.asked,
      inl (
        start,
        c.serve-answered.new.on.0,
        first,
        more,
        c.serve-answered.result,
        (begins.0, begins.1, refl, refl, refl, refl, refl, refl, refl, c.front_of.ensures, refl, refl, c.new.ensures, refl, refl, c.requires.named),
        starts,
        ran,
        c.final_status-status.ensures.status,
        refl,
      ),
    )
