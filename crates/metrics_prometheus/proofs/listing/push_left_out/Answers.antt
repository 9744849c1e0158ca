use Rattle.std.proofs.Common.{◌∙◌, ℕ, List, Some, None, ap, sym, append-nil}
use Rattle.std.specs.Borrow.{Bor}
use Rattle.std.specs.Prelude.{option_map}
use Rattle.metrics_prometheus.proofs.LeftOutLemmas.{keyed-more}
use Rattle.metrics_prometheus.proofs.listing.push_left_out.Goals as goal

pub returns-in_ok-push-in-Some : goal.returns-in_ok-push-in-Some
returns-in_ok-push-in-Some c = λ l readable is.
    keyed-more c.args.found.now.items c.push.new.self.items (Some c.in-Some.words) _ c.in_ok-push-in-Some.ensures.items (ap (option_map (λ (t : Bor (List ℕ)). t.now)) (sym c.in-Some.is) ∙ c.left_out_in_line.ensures l readable is)

pub returns-in-None : goal.returns-in-None
returns-in-None c = λ l readable is.
    keyed-more c.args.found.now.items c.args.found.now.items None _ (sym (append-nil c.args.found.now.items)) (ap (option_map (λ (t : Bor (List ℕ)). t.now)) (sym c.in-None.is) ∙ c.left_out_in_line.ensures l readable is)
