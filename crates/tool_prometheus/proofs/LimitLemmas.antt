-- Whether there would be too many series, by the number of those that are held as an exporter returns it.
use Rattle.std.proofs.Common.{◌≡◌, ◌≢◌, ◌∙◌, ℕ, ◌<◌, ◌≤◌, min, Bool, true, false, not, Option, None, Some, is_some, inl, inr, ap, sym, subst, arith}
use Rattle.std.specs.Prelude.{MatchBool}
use Rattle.metrics_names.specs.Names.{SeriesKey}
use Rattle.metrics_exporter.specs.Exporting.{Cells, IsHeldNumber}
use Rattle.tool_prometheus.specs.Limit.{IsBeyond, IsWithin}

-- so many are held, or more than the greatest number
abbrev pub Counted : Cells → ℕ → ℕ → Type 0
Counted cells most len = (held : ℕ) × IsHeldNumber cells held × (len ≡ min held most)

pub fewer : (o : Option ℕ) (most len top : ℕ) (cells : Cells) (series : SeriesKey) → o ≡ Some most → Counted cells top len → len < most
    → most ≤ top → IsWithin o cells series
fewer o most len top cells series is (held, number, same) low fits =
    subst (λ m. IsWithin m cells series) (sym is) (inr (held, number, omega (arith, same, low, fits)))

is-none : {T : Type 0} (o : Option T) → is_some o ≡ false → o ≡ None
is-none None e = λ i. None
is-none (Some x) e = absurd (let g : true ≡ false = e in cc)

not-none : {T : Type 0} (o : Option T) → is_some o ≡ true → o ≢ None
not-none o e is = absurd (let g : false ≡ true = sym (ap is_some is) ∙ e in cc)

pub enough : (o : Option ℕ) (most len top : ℕ) (cells : Cells) (series : SeriesKey) (held : Bool) → o ≡ Some most → Counted cells top len
    → (len < most → ⊥) → held ≡ is_some (cells series) → MatchBool (not held) (IsBeyond o cells series) (IsWithin o cells series)
enough o most len top cells series true is counted high there =
    subst (λ m. IsWithin m cells series) (sym is) (inl (not-none (cells series) (sym there)))
enough o most len top cells series false is (held, number, same) high there =
    subst (λ m. IsBeyond m cells series) (sym is) (is-none (cells series) (sym there), (held, number, omega (arith, same, high)))
