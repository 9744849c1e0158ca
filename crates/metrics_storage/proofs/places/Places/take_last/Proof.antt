-- `take_last` moves the last value out, and its place is room again. Assumes `Logic`.
use mathlib.Core.Path.{◌≡◌, refl, sym, ap, ◌∙◌, subst}
use Prim.Native.Nat.{ℕ, zero, suc, ◌+◌, ◌*◌, ◌<◌, ◌^◌}
use native.Mathlib.Omega.{arith}
use mathlib.Core.List.{List, [], ◌∷◌, ◌++◌}
use lib.ListN.{length}
use seplogic.Ra.Ura.{Ura}
use base.Fraction.{full_share}
use base.Fml.{Lft, GName, Share, ftrue, fat, froom, flft, fobs, fbor}
use base.Logic.{SProp, ent, never, id⊢}
use mir.Syntax.{Fn, named, w64}
use mir.MapTy.{inst_fn}
use mir.Val.{Val, vptr, vint}
use prog.Wp.{Env, Calls, Loops, WpFn, Tables}
use types.Logic.{Logic}
use types.Kit.{Item, ⋆, ‵, ◌⊛◌, some, given, pick, learn, at_ret, ◌$◌, ◌∵◌, !, qed, by, move, keep, use1, use2, split, join, rewrite, fsplit, fsplit3, fjoin, fjoin3, feq_i, feq_l, flt_l, flt_i, suffices, frame, done}
use types.Part.{whole, sub}
use types.Run.{look, stop, fld, load, of_opd, first, blocks, exec, returns, enter, bin, size_lit}
use types.ByLocal.{alloc_all, pass_all, free_all, look_at, get, get_in, through, sets, sets_last, env, take_at, give_at}
use types.SemTy.{Body as Borrowed}
use contract.Monad.{fact}
use contract.Running.{tables, tables_of}
use sound.WpLaws.{WpFn-mono}
use denote.Exit.{yes, no}
use denote.RattleType.{owns}
use denote.Memory.{mem, part_at}
use denote.Param.{layout}
use denote.RawPtr.{Ptr, in_a_block}
use denote.Ref.{MutBor, MutRef}
use denote.Builtin.{RefMutOf, usize}
use denote.Signature.{plain}
use denote.Steps.{nothing, opens, closes}
use denote.Triple.Carry.{spared}
use denote.Triple.Clauses.{Clauses, Ended, closing}
use denote.Triple.Entry.{on_entry}
use denote.Triple.Spec.{Meets, triple_of}
use denote.Triple.Table.{entered, run_framed}
use denote.Triple.Walked.{says, needs, Stays, stay_dropped, stay_ref, walk_of, ends_at, Goes-dropped, Goes-ref, walk_Meets}
use Rattle.core.proofs.mem.Param.{El, R, args, elτ}
use Rattle.core.proofs.ptr.Rows.{times_below, one_below}
use Rattle.std_alloc.proofs.VecSteps.Shapes.{after}
use Rattle.std_alloc.proofs.RcSteps.{Good, word, word-Good}
use Rattle.metrics_storage.specs.Ownership.{places, places_own}
use Rattle.metrics_storage.proofs.Memory.{Pl, Bp, sz, ptr_had, value_out, Gap, last_out, end_back}
use Rattle.metrics_storage.specs.contracts.places.Places.take_last.Key.{name as #self}
use Rattle.metrics_storage.proofs.places.Places.take_last.Statement as stated
use Rattle.metrics_storage.proofs.places.Places.take_last.Code as code

-- a list that isn't empty, cut before its last value
cut_last : {X : Type 0} (xs : List X) (n : ℕ) → n + 1 ≡ length xs → (front : List X) × (x : X) × (xs ≡ front ++ x ∷ []) × (n ≡ length front)
cut_last [] n e = absurd (omega arith)
cut_last (x ∷ []) n e = ([], x, refl, omega arith)
cut_last (x ∷ y ∷ xs) zero e = absurd (omega arith)
cut_last (x ∷ y ∷ xs) (suc n) e = let on = cut_last (y ∷ xs) n (omega arith) in (x ∷ on.0, on.1, ap (λ l. x ∷ l) on.2, omega (arith, on.3))

module _ (E : El) where
  abbrev function : Fn
  function = inst_fn (args E) code.function

  abbrev ended : Ended
  ended = record {
    signature = record { lifetimes = 1; outlives = []; params = RefMutOf (0 ∷ []) tt (plain (λ _. Pl E)) (λ _. tt) ∷ plain (λ _. Bp E) ∷ plain (λ _. usize) ∷ []; result = plain (λ _. R E) };
    kept = (yes, (no, (no, tt)));
  }

  abbrev stayed : Stays ended.signature.params ended.kept
  stayed = (stay_ref (0 ∷ []) tt (plain (λ _. Pl E)), (stay_dropped (plain (λ _. Bp E)) no, (stay_dropped (plain (λ _. usize)) no, tt)))

  abbrev Asks : (Pl E).Denot → (Bp E).Denot → ℕ → Type 0
  Asks d start last = (start.ptr ≡ d.at) × (last + 1 ≡ length d.values) × (last < 64)

  abbrev Gives : (Pl E).Denot → (R E).Denot → (Pl E).Denot → Type 0
  Gives d r new = (new.at ≡ d.at) × (d.values ≡ new.values ++ r ∷ [])

  abbrev clauses : {M : Type 1} {𝓤 : Ura M} (𝓛 : Logic 𝓤) → Clauses 𝓤 ended
  clauses {𝓤 = 𝓤} 𝓛 κs a = record { ghost = Unit {0}; requires = λ _. fact 𝓤 (Asks a.0.now a.1.0 a.1.1.0); ensures = λ _ r w. fact 𝓤 (Gives a.0.now r w.0.now) }

module _ (E : El) {M : Type 1} {𝓤 : Ura M} (𝓛 : Logic 𝓤) (C : Calls 𝓤 𝓛.H) (Λ : Loops 𝓤 𝓛.H)
    (κ : Lft) (q : Share) (rb ro : ℕ) (γ : GName) (d : (Pl E).Denot) (start : (Bp E).Denot) (last : ℕ) (us0 us1 us2 : List Val) where
  open 𝓛 use {H, A}

  abbrev self : MutBor (Pl E).Denot
  self = record { ref_ptr = (rb, ro); ghost_name = γ; now = d }

  abbrev bound : (walk_of 𝓛 (ended E) (stayed E) (clauses E 𝓛)).Ghost
  bound = (((κ, tt), (q, tt), tt, (self, (start, (last, tt))), (us0, (us1, (us2, tt)))), tt)

  abbrev Post : Val → SProp 𝓤
  Post = (walk_of 𝓛 (ended E) (stayed E) (clauses E 𝓛)).post bound

  -- the borrow of the places, closed at what they are
  abbrev Shut : (Pl E).Denot → List (Item 𝓤) → List (Item 𝓤)
  Shut now more = ‵ (fobs γ ((Pl E).coded.code now)) ∷ ‵ (fbor κ (Borrowed (mem (Pl E)) rb ro γ)) ∷ ‵ (flft κ q) ∷ more

  leave : us0 ≡ vptr rb ro ∷ [] → (x : (R E).Denot) (v : Val) (new : (Pl E).Denot) → Gives E d x new → ent 𝓤 (⋆ 𝓛 (Shut new (‵ ((R E).own_val x (v ∷ [])) ∷ []))) (Post v)
  leave passed x v new gives =
      qed 𝓛 (Shut new (‵ ((R E).own_val x (v ∷ [])) ∷ [])) ∵
      suffices ! _ (ends_at 𝓛 (ended E) (stayed E) (clauses E 𝓛) bound v x (new, (tt, (tt, tt))) (tt, (tt, (tt, tt)))) $ says ! gives $
      nothing ! $ move ! (3 ∷ 0 ∷ []) $ join ! $ frame ! $ feq_i ! (List Val) us0 (vptr rb ro ∷ []) passed $ fjoin3 ! $
      nothing ! $ nothing ! $ fjoin ! $ nothing ! $ fjoin ! $ move ! (1 ∷ 0 ∷ []) $ fjoin ! $ done !

  walk : us0 ≡ vptr rb ro ∷ [] → Asks E d start last → last < 2 ^ 64 → ent 𝓤 (⋆ 𝓛 (Shut d [])) (WpFn 𝓤 H C Λ (function E) (vptr rb ro ∷ word start.ptr ∷ vint w64 last ∷ []) Post)
  walk passed asked wide =
      let s = sz E in let cut = cut_last d.values last asked.1 in let front = cut.0 in let x = cut.1 in
      let new : (Pl E).Denot = record { mark = d.mark; at = d.at; values = front } in
      qed 𝓛 (Shut d []) ∵ enter ! C Λ (function E) (vptr rb ro ∷ word start.ptr ∷ vint w64 last ∷ []) _ $
      alloc_all ! (λ l. pass_all ! refl ((tt, tt), (word-Good [] start.ptr, ((tt, record { fits = wide }), tt))) $
      let En : Env 𝓤 H = env (function E).locals l in
      opens ! tt (Pl E) {h = d} rb ro (λ vs. move ! (1 ∷ []) $ fsplit ! $ move ! (1 ∷ []) $
      in_a_block ! d.at (λ p. places_own (R E) p d.values) (id⊢ 𝓤 (never 𝓤)) (λ b o e. fsplit ! $ flt_l ! (λ small.
      let tiny : s < 2 ^ 64 = omega (arith, one_below 64 s (2 ^ 63) (omega arith) small) in
      let near : last * s < 2 ^ 64 = omega (arith, times_below last 64 s (2 ^ 63) (omega (arith, asked.2)) small) in
      let place : ℕ = last * s + o in
      let is : place ≡ length front * s + o = ap (λ (k : ℕ). k * s + o) cut.3 in
      take_at ! 2 $ rewrite ! 0 (λ (p : Ptr). ‵ (fat full_share (layout (Bp E)) (l 2) 0 (word p))) (asked.0 ∙ e) refl $ give_at ! 2 $ first ! $ blocks ! $
      sets ! (bin ! (get ! refl) (size_lit ! (record { fits = tiny })) (record { fits = near })) refl (tt, record { fits = near }) $
      sets ! (bin ! (get_in ! (fld ! refl (stop !)) (sub ! 0 refl (whole !))) (get ! refl) tt) refl (tt, tt) $
      rewrite ! 0 (λ (xs : List (R E).Denot). ‵ (places (R E) b o 64 xs)) cut.2 refl $
      use1 𝓛 (‵ (part_at (R E) full_share x b (length front * s + o)) ⊛ ‵ (Gap E 𝓛 b o 64 front)) (last_out E 𝓛 b o 64 front x) $ split ! $
      rewrite ! 0 (λ (k : ℕ). ‵ (part_at (R E) full_share x b k)) (sym is) refl $
      use1 𝓛 (some (λ (v : Val). given (Good (elτ E) v) (‵ (fat full_share (elτ E) b place v) ⊛ ‵ (E.row.own_val x (v ∷ []))))) (value_out E.row E.laws 𝓛 x b place) $
      pick ! (λ v. learn ! (λ good. split ! $ sets_last ! (of_opd ! (load ! (through ! refl (stop !)) (look ! 0 refl))) refl good $
      exec ! C Λ En (after 1 (function E).body) (at_ret En Post) $ sets ! (of_opd ! (get ! refl)) refl good $
      use1 𝓛 (‵ (froom (elτ E) b place)) (𝓛.laws.at_room (elτ E) b place v) $ rewrite ! 0 (λ (k : ℕ). ‵ (froom (elτ E) b k)) is refl $ move ! (0 ∷ 2 ∷ 3 ∷ 4 ∷ 5 ∷ 6 ∷ 7 ∷ []) $
      use2 𝓛 (‵ (places (R E) b o 64 front)) (end_back E 𝓛 b o 64 front) $
      flt_i ! (64 * s) (2 ^ 63) small $ fjoin ! $
      rewrite ! 0 (λ (p : Ptr). ‵ (places_own (R E) p front)) (sym e) refl $ move ! (1 ∷ 0 ∷ []) $ fjoin ! $ move ! (1 ∷ 0 ∷ []) $ closes ! tt (Pl E) new vs rb ro $
      returns ! (look_at ! 0 refl) $ free_all ! refl $ keep ! (0 ∷ 1 ∷ 2 ∷ 3 ∷ []) $ by ! (leave passed x v new (refl, cut.2))))))))

  entry : Asks E d start last → ent 𝓤 (on_entry 𝓛 (ended E).signature (κ, tt) (q, tt) (self, (start, (last, tt))) (us0, (us1, (us2, tt)))) (WpFn 𝓤 H C Λ (function E) (us0 ++ (us1 ++ (us2 ++ []))) Post)
  entry asked =
      qed 𝓛 ((‵ (flft κ q) ⊛ ‵ ftrue) ∷ ‵ (owns (MutRef (named 0) κ (Pl E) ∷ Bp E ∷ usize ∷ []) (self, (start, (last, tt))) (us0, (us1, (us2, tt)))) ∷ []) ∵
      split ! $ move ! (2 ∷ []) $ fsplit ! $ fsplit3 ! $ feq_l ! (λ e0.
      move ! (2 ∷ []) $ fsplit ! $ ptr_had ! start.ptr us1 (λ e1.
      fsplit ! $ fsplit ! $ feq_l ! (λ e2. flt_l ! (λ wide. keep ! (1 ∷ 2 ∷ 3 ∷ []) $
      by ! (subst (λ (ws : List Val × List Val × List Val). ent 𝓤 (⋆ 𝓛 (Shut d [])) (WpFn 𝓤 H C Λ (function E) (ws.0 ++ (ws.1 ++ (ws.2 ++ []))) Post)) (λ j. (sym e0 j, sym e1 j, sym e2 j)) (walk e0 asked wide))))))

meets : (E : El) {M : Type 1} {𝓤 : Ura M} (𝓛 : Logic 𝓤) (𝓣 : Tables 𝓤 𝓛.H) → Meets 𝓛 (ended E).signature (WpFn 𝓤 𝓛.H 𝓣.C 𝓣.Λ (function E)) (closing 𝓛 (ended E) (clauses E 𝓛))
meets E {𝓤 = 𝓤} 𝓛 𝓣 =
    walk_Meets 𝓛 (ended E) (stayed E) (Goes-ref 𝓛 1 0 tt (plain (λ _. Pl E)), (Goes-dropped 𝓛 1 (plain (λ _. Bp E)) no (λ κs x f. refl), (Goes-dropped 𝓛 1 (plain (λ _. usize)) no (λ κs x f. refl), tt)))
    (clauses E 𝓛) (WpFn 𝓤 𝓛.H 𝓣.C 𝓣.Λ (function E)) (WpFn-mono 𝓤 𝓛.H 𝓛.laws 𝓣 (function E))
    (λ z. let a = z.0.3 in let vss = z.0.4 in needs 𝓤 (Asks E a.0.now a.1.0 a.1.1.0) _
    (entry E 𝓛 𝓣.C 𝓣.Λ z.0.0.0 z.0.1.0 a.0.ref_ptr.0 a.0.ref_ptr.1 a.0.ghost_name a.0.now a.1.0 a.1.1.0 vss.0 vss.1.0 vss.1.1.0))

pub take_last_spec : {M : Type 1} → stated.statement M
unfolding tables_of
take_last_spec 𝓤 𝓛 𝓜 𝓡 wired X LX y =
    let E : El = record { row = X; laws = LX } in
    let 𝓣 : Tables 𝓤 𝓛.H = tables_of 𝓤 𝓛.H 𝓜 (tables 𝓤 𝓛.H 𝓜 𝓡 𝓡.env) in
    let key = #self (args E) in
    let post = closing 𝓛 (ended E) (clauses E 𝓛) in
    let met = entered 𝓤 𝓛.H (triple_of 𝓛 (ended E).signature post) 𝓣.C 𝓣.Λ key (function E) (code.unfolded 𝓤 𝓛.H 𝓜 𝓡 wired (X, tt)) (meets E 𝓛 𝓣) in
    spared 𝓛 (ended E).signature (𝓡.run (𝓡.env key)) (run_framed 𝓤 𝓛.H 𝓜 𝓡 (𝓡.env key)) 1 (X.lives, tt) post met ((y.0.0, y.0.1, tt, y.0.3, y.0.4), y.1)
