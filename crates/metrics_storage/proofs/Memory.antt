-- What the walks over raw memory share. Assumes `Logic`.
--     ptr_had, ptr_made, unit_had, unit_made      the machine values of a `BlockPtr`, and of a struct without bytes
--     one_value, value_out, value_in      a value of the element's row and its machine value, in hand and in memory
--     end_out, end_back, end_filled, last_out      the place after the values, or the last value's, is taken out of the row and put back
use mathlib.Core.Path.{◌≡◌, refl, sym, subst}
use Prim.Native.Nat.{ℕ, zero, suc, ◌+◌, ◌*◌, ◌<◌}
use native.Mathlib.Omega.{arith}
use native.Mathlib.Nat.{zero-mul, suc-mul}
use mathlib.Core.List.{List, [], ◌∷◌, ◌++◌}
use lib.ListN.{length}
use seplogic.Ra.Ura.{Ura}
use base.Fraction.{full_share}
use mir.Syntax.{Ty, ty_array}
use mir.Raw.{raw as bare}
use mir.Val.{Val, vstruct, vcons, vnil, of_list}
use base.Logic.{ent, sep, emp, ex, guard, never_e}
use base.Fml.{Fml, ffalse, fsep, fat, froom}
use types.Logic.{Logic, sem}
use types.Kit.{Item, Goal, Seq, Step, step, ‵, some, ◌⊛◌, ◌$◌, ◌∵◌, !, qed, move, keep, drop as skip, use1, use2, pick, split, check, show, fsplit, fjoin, fpick, fpack, feq_i, feq_l, rewrite, done}
use denote.RattleType.{RattleType, Valss}
use denote.Laws.{Typed, Is, shows}
use denote.Param.{param, layout}
use denote.Param.Laws.{Laws, param_laws}
use denote.Memory.{part_at}
use denote.RawPtr.{Ptr, RawPtr, ptr_val}
use denote.Shadow.{makes_shadow}
use denote.Steps.{nothing, peeks}
use denote.Struct.Struct.{Shape, Struct, within}
use denote.Struct.Owning.{shape}
use borrow.Table.OneValue.{part_in, part_out}
use Rattle.std.specs.Mem.{type_size}
use Rattle.core.proofs.mem.Param.{El, R, el_x, elτ}
use Rattle.std_alloc.proofs.RawLayout.{as_raw, as_written}
use Rattle.std_alloc.proofs.RcSteps.{Good, word}
use Rattle.metrics_storage.specs.Ownership.{places}
use Rattle.metrics_storage.specs.contracts.places.Places as Places-type
use Rattle.metrics_storage.specs.contracts.places.BlockPtr as BlockPtr-type

-- ---- the rows of the parts

module _ (E : El) where
  abbrev pub Pl : RattleType
  Pl = Places-type.the_row (R E)

  abbrev pub Bp : RattleType
  Bp = BlockPtr-type.the_row (R E)

  -- the fields of `Places`, which take no bytes
  abbrev pub Unsized : RattleType
  Unsized = Struct (shape (Places-type.the_type (R E)))

  abbrev pub sz : ℕ
  sz = type_size (R E)

-- the machine value of a struct whose one field has no bytes
abbrev pub no_bytes : Val
no_bytes = vstruct (vcons (vstruct vnil) vnil)

-- a struct of one pointer
abbrev one_ptr : Shape
one_ptr = record { name = []; args = []; types = []; fields = RawPtr ∷ [] }

abbrev One : RattleType
One = Struct one_ptr

pub unit_made : (E : El) {M : Type 1} {𝓤 : Ura M} (𝓛 : Logic 𝓤) → ent 𝓤 (emp 𝓤) (sem 𝓛 ((Unsized E).own_val (tt, tt) (no_bytes ∷ [])))
unit_made E 𝓛 = makes_shadow 𝓛 ((Unsized E).own_val (tt, tt) (no_bytes ∷ [])) (λ outer. (tt, ((λ inner. (tt, tt)), tt))) ((vstruct vnil ∷ [], tt), (refl, ((tt, (refl, tt)), tt)))

module _ {M : Type 1} {𝓤 : Ura M} {𝓛 : Logic 𝓤} {K : Type 0} {Γ : List (Item 𝓤)} {G : Goal 𝓤 𝓛.H} where
  pub ptr_had : K → (p : Ptr) (vs : List Val) → (vs ≡ word p ∷ [] → Seq K 𝓛 Γ G) → Seq K 𝓛 (‵ (One.own_val (p, tt) vs) ∷ Γ) G
  ptr_had t p vs k = fpick t (λ inner. fsplit t $ feq_l t (λ outer. fsplit t $ feq_l t (λ e. skip t $ k (subst (λ (us : List Val). vs ≡ vstruct (of_list (us ++ [])) ∷ []) e outer))))

  pub ptr_made : K → (p : Ptr) → Step K 𝓛 (‵ (One.own_val (p, tt) (word p ∷ [])) ∷ Γ) G Γ G
  ptr_made t p = step (λ on.
      nothing t $ feq_i t (List Val) (ptr_val p ∷ []) (ptr_val p ∷ []) refl $ fjoin t $
      feq_i t (List Val) (word p ∷ []) (word p ∷ []) refl $ fjoin t $
      fpack t (Valss (RawPtr ∷ [])) (within one_ptr (p, tt) (word p ∷ [])) (ptr_val p ∷ [], tt) $ on)

  pub unit_had : K → (E : El) (vs : List Val) → (vs ≡ no_bytes ∷ [] → Seq K 𝓛 Γ G) → Seq K 𝓛 (‵ ((Unsized E).own_val (tt, tt) vs) ∷ Γ) G
  unit_had t E vs k =
      fpick t (λ inner. fsplit t $ feq_l t (λ outer. fsplit t $ fpick t (λ least. fsplit t $ feq_l t (λ e.
      skip t $ skip t $ k (subst (λ (us : List Val). vs ≡ vstruct (of_list (us ++ [])) ∷ []) e outer)))))

-- ---- a value and its machine value

only_one : (τ : Ty) (vs : List Val) → Typed (τ ∷ []) vs → (v : Val) × ((vs ≡ v ∷ []) × Good τ v)
only_one τ [] t = absurd t
only_one τ (v ∷ []) t = (v, (refl, t.0))
only_one τ (v ∷ w ∷ vs) t = absurd t.1

module _ (Y : RattleType) (L : Laws Y) {M : Type 1} {𝓤 : Ura M} {𝓛 : Logic 𝓤} {K : Type 0} {Γ : List (Item 𝓤)} {G : Goal 𝓤 𝓛.H} where
  -- what is owned of a value is one machine value, of its type
  pub one_value : K → (x : Y.Denot) (vs : List Val) → ((v : Val) → vs ≡ v ∷ [] → Good (layout Y) v → Seq K 𝓛 (‵ (Y.own_val x (v ∷ [])) ∷ Γ) G) → Seq K 𝓛 (‵ (Y.own_val x vs) ∷ Γ) G
  one_value t x vs k =
      let P = param 0 Y in
      peeks t P (Is P) (shows 𝓛 P) x vs (λ is.
      let one = only_one (layout Y) vs (((param_laws 0 Y L).lawful 𝓛).typed x vs is) in
      rewrite t 0 (λ (us : List Val). ‵ (Y.own_val x us)) one.1.0 refl $ k one.0 one.1.0 one.1.1)

module _ (Y : RattleType) (L : Laws Y) {M : Type 1} {𝓤 : Ura M} (𝓛 : Logic 𝓤) where
  open 𝓛 use {H}

  pub value_out : (x : Y.Denot) (b o : ℕ) → ent 𝓤 (sem 𝓛 (part_at (param 0 Y) full_share x b o)) (ex 𝓤 (λ (v : Val). guard 𝓤 (Good (layout Y) v) (sep 𝓤 (H.at full_share (layout Y) b o v) (sem 𝓛 (Y.own_val x (v ∷ []))))))
  value_out x b o =
      let P = param 0 Y in
      qed 𝓛 (‵ (part_at P full_share x b o) ∷ []) ∵
      use1 𝓛 (some (λ (v : Val). ‵ (fat full_share (layout Y) b o v) ⊛ ‵ (Y.own_val x (v ∷ [])))) (part_out 𝓛 P refl full_share x b o) $ pick ! (λ v. split ! $ move ! (1 ∷ []) $
      peeks ! P (Is P) (shows 𝓛 P) x (v ∷ []) (λ is.
      show ! (λ (w : Val). guard 𝓤 (Good (layout Y) w) (sep 𝓤 (H.at full_share (layout Y) b o w) (sem 𝓛 (Y.own_val x (w ∷ []))))) v $
      check ! (((param_laws 0 Y L).lawful 𝓛).typed x (v ∷ []) is).0 $ move ! (1 ∷ 0 ∷ []) $ done !))

  pub value_in : (x : Y.Denot) (b o : ℕ) (v : Val) → ent 𝓤 (sep 𝓤 (H.at full_share (layout Y) b o v) (sem 𝓛 (Y.own_val x (v ∷ [])))) (sem 𝓛 (part_at (param 0 Y) full_share x b o))
  value_in x b o v = part_in 𝓛 (param 0 Y) refl full_share x b o v

-- ---- the place after the values

module _ (E : El) {M : Type 1} {𝓤 : Ura M} (𝓛 : Logic 𝓤) (b : ℕ) where
  abbrev s : ℕ
  s = sz E

  abbrev Row : ℕ → ℕ → List (el_x E) → Fml
  Row o n xs = places (R E) b o n xs

  -- the offset of that place
  abbrev end : ℕ → List (el_x E) → ℕ
  end o xs = length xs * s + o

  -- n places without it
  abbrev pub Gap : ℕ → ℕ → List (el_x E) → Fml
  Gap o zero xs = ffalse
  Gap o (suc n) [] = froom (bare (ty_array (elτ E) n)) b (o + s)
  Gap o (suc n) (x ∷ xs) = fsep (part_at (R E) full_share x b o) (Gap (o + s) n xs)

  first : (o : ℕ) → o ≡ end o []
  first o = omega (arith, zero-mul s)

  next : (o : ℕ) (x : el_x E) (xs : List (el_x E)) → end (o + s) xs ≡ end o (x ∷ xs)
  next o x xs = omega (arith, suc-mul (length xs) s)

  pub end_out : (o n : ℕ) (xs : List (el_x E)) → length xs < n → ent 𝓤 (sem 𝓛 (Row o n xs)) (sep 𝓤 (sem 𝓛 (froom (elτ E) b (end o xs))) (sem 𝓛 (Gap o n xs)))
  end_out o zero xs lt = absurd (omega arith)
  end_out o (suc n) [] lt = qed 𝓛 (‵ (Row o (suc n) []) ∷ []) ∵
      as_written ! (ty_array (elτ E) (suc n)) b o $
      use1 𝓛 (‵ (froom (elτ E) b o) ⊛ ‵ (froom (ty_array (elτ E) n) b (o + s))) (𝓛.laws.room_uncons (elτ E) n b o) $ split ! $
      rewrite ! 0 (λ (k : ℕ). ‵ (froom (elτ E) b k)) (first o) refl $ move ! (1 ∷ []) $ as_raw ! (ty_array (elτ E) n) b (o + s) $ move ! (1 ∷ 0 ∷ []) $ done !
  end_out o (suc n) (x ∷ xs) lt = qed 𝓛 (‵ (Row o (suc n) (x ∷ xs)) ∷ []) ∵ fsplit ! $ move ! (1 ∷ []) $
      use1 𝓛 (‵ (froom (elτ E) b (end (o + s) xs)) ⊛ ‵ (Gap (o + s) n xs)) (end_out (o + s) n xs (omega arith)) $ split ! $
      rewrite ! 0 (λ (k : ℕ). ‵ (froom (elτ E) b k)) (next o x xs) refl $ move ! (2 ∷ 1 ∷ []) $ fjoin ! $ move ! (1 ∷ 0 ∷ []) $ done !

  pub end_back : (o n : ℕ) (xs : List (el_x E)) → ent 𝓤 (sep 𝓤 (sem 𝓛 (froom (elτ E) b (end o xs))) (sem 𝓛 (Gap o n xs))) (sem 𝓛 (Row o n xs))
  end_back o zero xs = qed 𝓛 (‵ (froom (elτ E) b (end o xs)) ∷ ‵ ffalse ∷ []) ∵ move ! (1 ∷ []) $ use1 𝓛 (‵ (Row o zero xs)) (never_e 𝓤 _) $ keep ! (0 ∷ []) $ done !
  end_back o (suc n) [] = qed 𝓛 (‵ (froom (elτ E) b (end o [])) ∷ ‵ (Gap o (suc n) []) ∷ []) ∵
      rewrite ! 0 (λ (k : ℕ). ‵ (froom (elτ E) b k)) (sym (first o)) refl $ move ! (1 ∷ []) $ as_written ! (ty_array (elτ E) n) b (o + s) $ move ! (1 ∷ 0 ∷ []) $
      use2 𝓛 (‵ (froom (ty_array (elτ E) (suc n)) b o)) (𝓛.laws.room_cons (elτ E) n b o) $ as_raw ! (ty_array (elτ E) (suc n)) b o $ done !
  end_back o (suc n) (x ∷ xs) = qed 𝓛 (‵ (froom (elτ E) b (end o (x ∷ xs))) ∷ ‵ (Gap o (suc n) (x ∷ xs)) ∷ []) ∵
      rewrite ! 0 (λ (k : ℕ). ‵ (froom (elτ E) b k)) (sym (next o x xs)) refl $ move ! (1 ∷ []) $ fsplit ! $ move ! (2 ∷ 1 ∷ []) $
      use2 𝓛 (‵ (Row (o + s) n xs)) (end_back (o + s) n xs) $ move ! (1 ∷ 0 ∷ []) $ fjoin ! $ done !

  pub end_filled : (o n : ℕ) (xs : List (el_x E)) (y : el_x E) → ent 𝓤 (sep 𝓤 (sem 𝓛 (part_at (R E) full_share y b (end o xs))) (sem 𝓛 (Gap o n xs))) (sem 𝓛 (Row o n (xs ++ y ∷ [])))
  end_filled o zero xs y = qed 𝓛 (‵ (part_at (R E) full_share y b (end o xs)) ∷ ‵ ffalse ∷ []) ∵ move ! (1 ∷ []) $ use1 𝓛 (‵ (Row o zero (xs ++ y ∷ []))) (never_e 𝓤 _) $ keep ! (0 ∷ []) $ done !
  end_filled o (suc n) [] y = qed 𝓛 (‵ (part_at (R E) full_share y b (end o [])) ∷ ‵ (Gap o (suc n) []) ∷ []) ∵
      rewrite ! 0 (λ (k : ℕ). ‵ (part_at (R E) full_share y b k)) (sym (first o)) refl $ fjoin ! $ done !
  end_filled o (suc n) (x ∷ xs) y = qed 𝓛 (‵ (part_at (R E) full_share y b (end o (x ∷ xs))) ∷ ‵ (Gap o (suc n) (x ∷ xs)) ∷ []) ∵
      rewrite ! 0 (λ (k : ℕ). ‵ (part_at (R E) full_share y b k)) (sym (next o x xs)) refl $ move ! (1 ∷ []) $ fsplit ! $ move ! (2 ∷ 1 ∷ []) $
      use2 𝓛 (‵ (Row (o + s) n (xs ++ y ∷ []))) (end_filled (o + s) n xs y) $ move ! (1 ∷ 0 ∷ []) $ fjoin ! $ done !

  pub last_out : (o n : ℕ) (xs : List (el_x E)) (y : el_x E) → ent 𝓤 (sem 𝓛 (Row o n (xs ++ y ∷ []))) (sep 𝓤 (sem 𝓛 (part_at (R E) full_share y b (end o xs))) (sem 𝓛 (Gap o n xs)))
  last_out o zero [] y = never_e 𝓤 _
  last_out o zero (x ∷ xs) y = never_e 𝓤 _
  last_out o (suc n) [] y = qed 𝓛 (‵ (Row o (suc n) (y ∷ [])) ∷ []) ∵ fsplit ! $ rewrite ! 0 (λ (k : ℕ). ‵ (part_at (R E) full_share y b k)) (first o) refl $ done !
  last_out o (suc n) (x ∷ xs) y = qed 𝓛 (‵ (Row o (suc n) (x ∷ xs ++ y ∷ [])) ∷ []) ∵ fsplit ! $ move ! (1 ∷ []) $
      use1 𝓛 (‵ (part_at (R E) full_share y b (end (o + s) xs)) ⊛ ‵ (Gap (o + s) n xs)) (last_out (o + s) n xs y) $ split ! $
      rewrite ! 0 (λ (k : ℕ). ‵ (part_at (R E) full_share y b k)) (next o x xs) refl $ move ! (2 ∷ 1 ∷ []) $ fjoin ! $ move ! (1 ∷ 0 ∷ []) $ done !
