-- What is asked of surroundings, one thing after another.
use Rattle.std.proofs.Common.{◌≡◌, ℕ, List, [], sym, ap, subst, ◌∙◌, append_assoc, append-nil, Option, None, Some}
use Rattle.tool_prometheus.specs.Asked.{Asked, nothing_asked, then_asked, Asks}

pub then-nothing : (a : Asked) → then_asked a nothing_asked ≡ a
then-nothing a = λ i. record { clock = append-nil a.clock i; files = append-nil a.files i }

pub then-assoc : (a b c : Asked) → then_asked (then_asked a b) c ≡ then_asked a (then_asked b c)
then-assoc a b c = λ i. record { clock = append_assoc a.clock b.clock c.clock i; files = append_assoc a.files b.files c.files i }

pub asks_none : (a : Option Asked) → Asks a a nothing_asked
asks_none None = tt
asks_none (Some a) = ap Some (sym (then-nothing a))

pub asks_then : (a b c : Option Asked) (p q : Asked) → Asks a b p → Asks b c q → Asks a c (then_asked p q)
asks_then None b c p q h g = tt
asks_then (Some a) b c p q h g =
    subst (λ z. Asks z c q) h g ∙ ap Some (then-assoc a p q)

-- after nothing
pub asks_later : (a b c : Option Asked) (q : Asked) → Asks a b nothing_asked → Asks b c q → Asks a c q
asks_later a b c q h g = asks_then a b c nothing_asked q h g

-- before nothing
pub asks_before : (a b c : Option Asked) (p : Asked) → Asks a b p → Asks b c nothing_asked → Asks a c p
asks_before a b c p h g = subst (Asks a c) (then-nothing p) (asks_then a b c p nothing_asked h g)

-- a moment, and then texts for the file
pub asks_both : (a b c : Option Asked) (clock : List ℕ) (files : List (List ℕ)) → Asks a b (record { clock = clock; files = [] })
    → Asks b c (record { clock = []; files = files }) → Asks a c (record { clock = clock; files = files })
asks_both a b c clock files h g =
    subst (Asks a c) (λ i. record { clock = append-nil clock i; files = files })
    (asks_then a b c (record { clock = clock; files = [] }) (record { clock = []; files = files }) h g)
