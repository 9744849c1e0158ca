-- What a cell and a seat own. The views of all seats that made a step are under one name, which tells cells apart.
use Rattle.core.specs.Prelude.{◌≡◌, ℕ, ◌+◌, List, Bool, true, false}
use base.Share.{three_quarters}
use base.Stored.{Coded, coded×, coded_ℕ, coded_via}
use base.Fml.{Lft, Fml, ffalse, fsep, fex, fbor}
use denote.RawPtr.{Ptr, block_ptr, null_ptr}
use denote.Sharing as lent
use Rattle.atomic_table.specs.Seated.{word, fact, seen, roster}
use Rattle.metrics_counts.specs.declared.view.View.{View}
use Rattle.metrics_counts.specs.Counting.{IsCounted, first_view}

-- what contracts see of a cell: the name of its views, and the key that it was made for
pub record Counted (K : Type 0) : Type 0 where
  pub name : ℕ
  pub key : K

abbrev pub counted_coded : {K : Type 0} → Coded K → Coded (Counted K)
counted_coded {K} c = coded_via (coded× coded_ℕ c) (λ (r : Counted K). (r.name, r.key)) (λ x y e i. record { name = (e i).0; key = (e i).1 })

abbrev pub view_coded : Coded View
view_coded = coded_via (coded× coded_ℕ coded_ℕ) (λ (v : View). (v.seen, v.added)) (λ x y e i. record { seen = (e i).0; added = (e i).1 })

-- a seat that made a step has a part of its view, and the cell the other one
abbrev pub seat_owns : Bool → ℕ → ℕ → View → Fml
seat_owns true name id v = seen view_coded.code name id three_quarters v
seat_owns false name id v = fact (v ≡ first_view)

abbrev pub viewed : ℕ → ℕ → List View → Fml
viewed name n views = fsep (roster view_coded.code name 0 views) (fact (IsCounted n views))

abbrev pub beside : ℕ → ℕ → Fml
beside name n = fex (List View) (viewed name n)

abbrev pub cell_owns : ℕ → (ℕ → Fml) → Fml
cell_owns name fields = fex ℕ (λ n. fsep (fields n) (beside name n))

abbrev pub counted : ℕ → ℕ → ℕ → Fml
counted name b o = cell_owns name (word b (o + 0))

-- a `&` to a cell is an invariant over the borrow of its word, with the views
abbrev pub cell_shares : ℕ → Ptr → Lft → Fml
cell_shares name (block_ptr b o) = lent.some Lft (λ α. lent.beside (lent.ends α) (lent.always (fbor α (counted name b o))))
cell_shares name null_ptr = lent.said ffalse
