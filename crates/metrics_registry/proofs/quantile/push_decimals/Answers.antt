use Rattle.std.proofs.Common.{arith, ◌≡◌, ◌∙◌, ap, sym, ◌+◌, ◌-◌, ◌/◌, ◌%◌, ◌^◌, ◌++◌, string_bytes, append-nil}
use Rattle.metrics_registry.proofs.LabelLemmas.{ten_pos, none_left, pushed}
use Rattle.metrics_registry.proofs.quantile.push_decimals.Goals as goal

pub nonzero_rem-decimals : goal.nonzero_rem-decimals
nonzero_rem-decimals c = omega (arith, c.pow.ensures, ten_pos c.loop-places.places)

pub nonzero_div-digit : goal.nonzero_div-digit
nonzero_div-digit c = omega (arith, c.pow-in-loop-places.ensures, ten_pos (c.loop-places.places - 1))

pub loop-places-preserved : goal.loop-places-preserved
loop-places-preserved c =
    let digit = 48 + c.args.decimals / c.pow-in-loop-places.result % 10 in record {
      few = omega (arith, c.loop-places.invariant.few);
      told = pushed c.loop-places.places c.args.decimals digit (string_bytes c.loop-places.label) (string_bytes c.push.new.self) _
          (λ e. c.loop-places-test.true (ap (λ p. c.args.decimals % p) c.pow.ensures ∙ e))
          (ap (λ p. 48 + c.args.decimals / p % 10) c.pow-in-loop-places.ensures)
          (c.in_ok-push.ensures.bytes ∙ ap (λ l. string_bytes c.loop-places.label ++ l) (c.in_ok-push.ensures.ascii (omega arith)))
          c.loop-places.invariant.told;
    }

pub returns : goal.returns
returns c =
    let zero : c.args.decimals % 10 ^ c.loop-places.places ≡ 0 = ap (λ p. c.args.decimals % p) (sym c.pow.ensures) ∙ c.loop-places-test.false in
    sym (append-nil (string_bytes c.loop-places.label))
    ∙ (ap (λ l. string_bytes c.loop-places.label ++ l) (sym (none_left c.loop-places.places c.args.decimals zero)) ∙ c.loop-places.invariant.told)
