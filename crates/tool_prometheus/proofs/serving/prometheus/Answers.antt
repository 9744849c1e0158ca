use Rattle.std.proofs.Common.{◌++◌, [], Ok, Err, refl, sym, ap, subst, ◌∙◌, append-nil}
use Rattle.std.proofs.KnownBytes.{Appends-trans}
use Rattle.tool_prometheus.specs.Asked.{nothing_asked, then_asked}
use Rattle.tool_prometheus.specs.Serving.{EndsLines, left_noted}
use Rattle.tool_prometheus.proofs.AskedLemmas.{then-nothing, asks_then, asks_later}
use Rattle.tool_prometheus.proofs.ServingLemmas.{run-of}
use Rattle.tool_prometheus.proofs.serving.prometheus.Goals as goal

pub returns-in-Ok : goal.returns-in-Ok
returns-in-Ok g c =
    let (read, text, left, took, wrote, ran, is_left, is_line) = c.in-Ok.ensures in
    let ran_so = run-of _ g.S.Surroundings.asked _ 1 c.args.on.now c.args.watch.now c.run_lines_leaving.new.on read text (Ok c.in-Ok.count) ran in
    let (asked, asks, run) = ran_so in
    let (more, last, added, given, ends) = c.end.ensures in
    let noted = c.note_left.ensures.noted in
    let lines = c.deref.ensures.value ∙ is_line in (
      read ++ left,
      text ++ last,
      then_asked asked more,
      took,
      Appends-trans _ _ _ text last wrote added,
      asks_then _ _ _ asked more asks (asks_later _ _ _ more c.note_left.ensures.asked given),
      (
        c.run_lines_leaving.new.on.0,
        text,
        last,
        asked,
        more,
        Ok c.in-Ok.count,
        read,
        left,
        refl,
        is_left,
        run,
        subst (λ on. EndsLines on c.end.new.on.0 more last (Ok c.in-Ok.count) c.end.result)
            (noted ∙ ap (λ l. left_noted (Ok c.in-Ok.count) l c.run_lines_leaving.new.on.0) lines) ends,
        refl,
        refl,
      ),
    )

pub returns : goal.returns
returns g c =
    let (read, text, left, took, wrote, ran, is_left, is_line) = c.in-Err.ensures in
    let (asked, asks, run) = run-of _ g.S.Surroundings.asked _ 1 c.args.on.now c.args.watch.now c.run_lines_leaving.new.on read text (Err c.in-Err.e) ran in (
      read ++ left,
      text,
      asked,
      took,
      wrote,
      asks,
      (c.run_lines_leaving.new.on.0, text, [], asked, nothing_asked, Err c.in-Err.e, read, left, refl, is_left, run, (refl, refl, refl, refl), sym (append-nil text), sym (then-nothing asked)),
    )
