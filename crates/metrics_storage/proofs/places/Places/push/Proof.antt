-- `push` fills the place after the values. Assumes `Logic`.
use mathlib.Core.Path.{◌≡◌, refl, sym, ap, ◌∙◌, subst}
use Prim.Native.Nat.{ℕ, ◌+◌, ◌*◌, ◌<◌, ◌^◌}
use native.Mathlib.Omega.{arith}
use mathlib.Core.List.{List, [], ◌∷◌, ◌++◌}
use lib.ListN.{length}
use seplogic.Ra.Ura.{Ura}
use base.Fraction.{full_share}
use base.Fml.{Lft, GName, Share, ftrue, fat, froom, flft, fobs, fbor}
use base.Logic.{SProp, ent, never, id⊢}
use mir.Syntax.{Fn, named, w64}
use mir.MapTy.{inst_fn}
use mir.Val.{Val, vptr, vint, vunit}
use prog.Wp.{Env, Calls, Loops, WpFn, Tables}
use types.Logic.{Logic}
use types.Kit.{Item, ⋆, ‵, ◌⊛◌, at_ret, ◌$◌, ◌∵◌, !, qed, by, move, keep, use1, use2, split, join, rewrite, fsplit, fsplit3, fjoin, fjoin3, feq_i, feq_l, flt_l, flt_i, suffices, frame, done}
use types.Part.{whole, sub}
use types.Run.{init, stop, fld, unit_lit, of_opd, assigns_last, first, blocks, exec, returns, enter, bin, size_lit}
use types.ByLocal.{alloc_all, pass_all, free_all, look_at, get, get_in, through, sets, env, take_at, give_at}
use types.SemTy.{Body as Borrowed}
use contract.Monad.{fact}
use contract.Running.{tables, tables_of}
use sound.WpLaws.{WpFn-mono}
use denote.Exit.{yes, no}
use denote.RattleType.{owns}
use denote.Memory.{mem, part_at}
use denote.Param.{layout}
use denote.RawPtr.{Ptr, in_a_block}
use denote.Ref.{MutBor, MutRef}
use denote.Builtin.{RefMutOf, unit, usize}
use denote.Signature.{plain}
use denote.Steps.{nothing, opens, closes}
use denote.Triple.Carry.{spared}
use denote.Triple.Clauses.{Clauses, Ended, closing}
use denote.Triple.Entry.{on_entry}
use denote.Triple.Spec.{Meets, triple_of}
use denote.Triple.Table.{entered, run_framed}
use denote.Triple.Walked.{says, needs, Stays, stay_dropped, stay_ref, walk_of, ends_at, Goes-dropped, Goes-ref, walk_Meets}
use Rattle.core.proofs.mem.Param.{El, R, args, elτ}
use Rattle.core.proofs.ptr.Rows.{times_below, one_below}
use Rattle.std_alloc.proofs.VecSteps.Shapes.{after}
use Rattle.std_alloc.proofs.RcSteps.{Good, word, word-Good}
use Rattle.metrics_storage.specs.Ownership.{places, places_own}
use Rattle.metrics_storage.proofs.Memory.{Pl, Bp, sz, ptr_had, one_value, value_in, Gap, end_out, end_filled}
use Rattle.metrics_storage.specs.contracts.places.Places.push.Key.{name as #self}
use Rattle.metrics_storage.proofs.places.Places.push.Statement as stated
use Rattle.metrics_storage.proofs.places.Places.push.Code as code

module _ (E : El) where
  abbrev function : Fn
  function = inst_fn (args E) code.function

  abbrev ended : Ended
  ended = record {
    signature = record { lifetimes = 1; outlives = []; params = RefMutOf (0 ∷ []) tt (plain (λ _. Pl E)) (λ _. tt) ∷ plain (λ _. Bp E) ∷ plain (λ _. usize) ∷ plain (λ _. R E) ∷ []; result = plain (λ _. unit) };
    kept = (yes, (no, (no, (no, tt))));
  }

  abbrev stayed : Stays ended.signature.params ended.kept
  stayed = (stay_ref (0 ∷ []) tt (plain (λ _. Pl E)), (stay_dropped (plain (λ _. Bp E)) no, (stay_dropped (plain (λ _. usize)) no, (stay_dropped (plain (λ _. R E)) no, tt))))

  abbrev Asks : (Pl E).Denot → (Bp E).Denot → ℕ → Type 0
  Asks d start len = (start.ptr ≡ d.at) × (len ≡ length d.values) × (len < 64)

  abbrev Gives : (Pl E).Denot → (R E).Denot → (Pl E).Denot → Type 0
  Gives d value new = (new.at ≡ d.at) × (new.values ≡ d.values ++ value ∷ [])

  abbrev clauses : {M : Type 1} {𝓤 : Ura M} (𝓛 : Logic 𝓤) → Clauses 𝓤 ended
  clauses {𝓤 = 𝓤} 𝓛 κs a = record { ghost = Unit {0}; requires = λ _. fact 𝓤 (Asks a.0.now a.1.0 a.1.1.0); ensures = λ _ r w. fact 𝓤 (Gives a.0.now a.1.1.1.0 w.0.now) }

module _ (E : El) {M : Type 1} {𝓤 : Ura M} (𝓛 : Logic 𝓤) (C : Calls 𝓤 𝓛.H) (Λ : Loops 𝓤 𝓛.H)
    (κ : Lft) (q : Share) (rb ro : ℕ) (γ : GName) (d : (Pl E).Denot) (start : (Bp E).Denot) (len : ℕ) (value : (R E).Denot) (us0 us1 us2 us3 : List Val) where
  open 𝓛 use {H, A}

  abbrev self : MutBor (Pl E).Denot
  self = record { ref_ptr = (rb, ro); ghost_name = γ; now = d }

  abbrev bound : (walk_of 𝓛 (ended E) (stayed E) (clauses E 𝓛)).Ghost
  bound = (((κ, tt), (q, tt), tt, (self, (start, (len, (value, tt)))), (us0, (us1, (us2, (us3, tt))))), tt)

  abbrev Post : Val → SProp 𝓤
  Post = (walk_of 𝓛 (ended E) (stayed E) (clauses E 𝓛)).post bound

  -- the borrow of the places, closed at what they are
  abbrev Shut : (Pl E).Denot → List (Item 𝓤)
  Shut now = ‵ (fobs γ ((Pl E).coded.code now)) ∷ ‵ (fbor κ (Borrowed (mem (Pl E)) rb ro γ)) ∷ ‵ (flft κ q) ∷ []

  abbrev new : (Pl E).Denot
  new = record { mark = d.mark; at = d.at; values = d.values ++ value ∷ [] }

  leave : us0 ≡ vptr rb ro ∷ [] → ent 𝓤 (⋆ 𝓛 (Shut new)) (Post vunit)
  leave passed =
      qed 𝓛 (Shut new) ∵ suffices ! _ (ends_at 𝓛 (ended E) (stayed E) (clauses E 𝓛) bound vunit tt (new, (tt, (tt, (tt, tt)))) (tt, (tt, (tt, (tt, tt))))) $ says ! (refl, refl) $
      feq_i ! (List Val) (vunit ∷ []) (vunit ∷ []) refl $ move ! (1 ∷ 2 ∷ 3 ∷ 0 ∷ []) $
      nothing ! $ move ! (3 ∷ 0 ∷ []) $ join ! $ frame ! $ feq_i ! (List Val) us0 (vptr rb ro ∷ []) passed $ fjoin3 ! $
      nothing ! $ nothing ! $ fjoin ! $ nothing ! $ fjoin ! $ nothing ! $ fjoin ! $ move ! (1 ∷ 0 ∷ []) $ fjoin ! $ done !

  abbrev Had : Val → List (Item 𝓤)
  Had v = ‵ (fobs γ ((Pl E).coded.code d)) ∷ ‵ (fbor κ (Borrowed (mem (Pl E)) rb ro γ)) ∷ ‵ (flft κ q) ∷ ‵ ((R E).own_val value (v ∷ [])) ∷ []

  walk : us0 ≡ vptr rb ro ∷ [] → Asks E d start len → len < 2 ^ 64 → (v : Val) → Good (layout (R E)) v
      → ent 𝓤 (⋆ 𝓛 (Had v)) (WpFn 𝓤 H C Λ (function E) (vptr rb ro ∷ word start.ptr ∷ vint w64 len ∷ v ∷ []) Post)
  walk passed asked wide v good =
      let s = sz E in
      qed 𝓛 (Had v) ∵ enter ! C Λ (function E) (vptr rb ro ∷ word start.ptr ∷ vint w64 len ∷ v ∷ []) _ $
      alloc_all ! (λ l. pass_all ! refl ((tt, tt), (word-Good [] start.ptr, ((tt, record { fits = wide }), (good, tt)))) $
      let En : Env 𝓤 H = env (function E).locals l in
      opens ! tt (Pl E) {h = d} rb ro (λ vs. move ! (1 ∷ []) $ fsplit ! $ move ! (1 ∷ []) $
      in_a_block ! d.at (λ p. places_own (R E) p d.values) (id⊢ 𝓤 (never 𝓤)) (λ b o e. fsplit ! $ flt_l ! (λ small.
      let tiny : s < 2 ^ 64 = omega (arith, one_below 64 s (2 ^ 63) (omega arith) small) in
      let near : len * s < 2 ^ 64 = omega (arith, times_below len 64 s (2 ^ 63) (omega (arith, asked.2)) small) in
      let place : ℕ = len * s + o in
      let is : place ≡ length d.values * s + o = ap (λ (k : ℕ). k * s + o) asked.1 in
      take_at ! 2 $ rewrite ! 0 (λ (p : Ptr). ‵ (fat full_share (layout (Bp E)) (l 2) 0 (word p))) (asked.0 ∙ e) refl $ give_at ! 2 $ first ! $ blocks ! $
      sets ! (bin ! (get ! refl) (size_lit ! (record { fits = tiny })) (record { fits = near })) refl (tt, record { fits = near }) $
      sets ! (bin ! (get_in ! (fld ! refl (stop !)) (sub ! 0 refl (whole !))) (get ! refl) tt) refl (tt, tt) $
      use1 𝓛 (‵ (froom (elτ E) b (length d.values * s + o)) ⊛ ‵ (Gap E 𝓛 b o 64 d.values)) (end_out E 𝓛 b o 64 d.values (omega (arith, asked))) $ split ! $
      rewrite ! 0 (λ (k : ℕ). ‵ (froom (elτ E) b k)) (sym is) refl $
      -- [the room; the other places; the mark; its cell; the open borrow; obs; auth; what the value owns]
      sets ! (of_opd ! (get ! refl)) refl good $ assigns_last ! (of_opd ! (get ! refl)) (through ! refl (stop !)) (init ! 0 refl good) $
      exec ! C Λ En (after 1 (function E).body) (at_ret En Post) $ sets ! (of_opd ! (unit_lit !)) refl (tt, tt) $
      move ! (0 ∷ 7 ∷ []) $ use2 𝓛 (‵ (part_at (R E) full_share value b place)) (value_in E.row E.laws 𝓛 value b place v) $
      rewrite ! 0 (λ (k : ℕ). ‵ (part_at (R E) full_share value b k)) is refl $
      use2 𝓛 (‵ (places (R E) b o 64 new.values)) (end_filled E 𝓛 b o 64 d.values value) $
      flt_i ! (64 * s) (2 ^ 63) small $ fjoin ! $
      rewrite ! 0 (λ (p : Ptr). ‵ (places_own (R E) p new.values)) (sym e) refl $ move ! (1 ∷ 0 ∷ []) $ fjoin ! $ move ! (1 ∷ 0 ∷ []) $ closes ! tt (Pl E) new vs rb ro $
      returns ! (look_at ! 0 refl) $ free_all ! refl $ keep ! (0 ∷ 1 ∷ 2 ∷ []) $ by ! (leave passed)))))

  entry : Asks E d start len
      → ent 𝓤 (on_entry 𝓛 (ended E).signature (κ, tt) (q, tt) (self, (start, (len, (value, tt)))) (us0, (us1, (us2, (us3, tt))))) (WpFn 𝓤 H C Λ (function E) (us0 ++ (us1 ++ (us2 ++ (us3 ++ [])))) Post)
  entry asked =
      qed 𝓛 ((‵ (flft κ q) ⊛ ‵ ftrue) ∷ ‵ (owns (MutRef (named 0) κ (Pl E) ∷ Bp E ∷ usize ∷ R E ∷ []) (self, (start, (len, (value, tt)))) (us0, (us1, (us2, (us3, tt))))) ∷ []) ∵
      split ! $ move ! (2 ∷ []) $ fsplit ! $ fsplit3 ! $ feq_l ! (λ e0.
      move ! (2 ∷ []) $ fsplit ! $ ptr_had ! start.ptr us1 (λ e1.
      fsplit ! $ fsplit ! $ feq_l ! (λ e2. flt_l ! (λ wide.
      fsplit ! $ one_value E.row E.laws ! value us3 (λ v e3 good. keep ! (2 ∷ 3 ∷ 4 ∷ 0 ∷ []) $
      by ! (subst (λ (ws : List Val × List Val × List Val × List Val). ent 𝓤 (⋆ 𝓛 (Had v)) (WpFn 𝓤 H C Λ (function E) (ws.0 ++ (ws.1 ++ (ws.2 ++ (ws.3 ++ [])))) Post))
      (λ j. (sym e0 j, sym e1 j, sym e2 j, sym e3 j)) (walk e0 asked wide v good)))))))

meets : (E : El) {M : Type 1} {𝓤 : Ura M} (𝓛 : Logic 𝓤) (𝓣 : Tables 𝓤 𝓛.H) → Meets 𝓛 (ended E).signature (WpFn 𝓤 𝓛.H 𝓣.C 𝓣.Λ (function E)) (closing 𝓛 (ended E) (clauses E 𝓛))
meets E {𝓤 = 𝓤} 𝓛 𝓣 =
    walk_Meets 𝓛 (ended E) (stayed E)
    (Goes-ref 𝓛 1 0 tt (plain (λ _. Pl E)), (Goes-dropped 𝓛 1 (plain (λ _. Bp E)) no (λ κs x f. refl), (Goes-dropped 𝓛 1 (plain (λ _. usize)) no (λ κs x f. refl), (Goes-dropped 𝓛 1 (plain (λ _. R E)) no (λ κs x f. refl), tt))))
    (clauses E 𝓛) (WpFn 𝓤 𝓛.H 𝓣.C 𝓣.Λ (function E)) (WpFn-mono 𝓤 𝓛.H 𝓛.laws 𝓣 (function E))
    (λ z. let a = z.0.3 in let vss = z.0.4 in needs 𝓤 (Asks E a.0.now a.1.0 a.1.1.0) _
    (entry E 𝓛 𝓣.C 𝓣.Λ z.0.0.0 z.0.1.0 a.0.ref_ptr.0 a.0.ref_ptr.1 a.0.ghost_name a.0.now a.1.0 a.1.1.0 a.1.1.1.0 vss.0 vss.1.0 vss.1.1.0 vss.1.1.1.0))

pub push_spec : {M : Type 1} → stated.statement M
unfolding tables_of
push_spec 𝓤 𝓛 𝓜 𝓡 wired X LX y =
    let E : El = record { row = X; laws = LX } in
    let 𝓣 : Tables 𝓤 𝓛.H = tables_of 𝓤 𝓛.H 𝓜 (tables 𝓤 𝓛.H 𝓜 𝓡 𝓡.env) in
    let key = #self (args E) in
    let post = closing 𝓛 (ended E) (clauses E 𝓛) in
    let met = entered 𝓤 𝓛.H (triple_of 𝓛 (ended E).signature post) 𝓣.C 𝓣.Λ key (function E) (code.unfolded 𝓤 𝓛.H 𝓜 𝓡 wired (X, tt)) (meets E 𝓛 𝓣) in
    spared 𝓛 (ended E).signature (𝓡.run (𝓡.env key)) (run_framed 𝓤 𝓛.H 𝓜 𝓡 (𝓡.env key)) 1 (X.lives, tt) post met ((y.0.0, y.0.1, tt, y.0.3, y.0.4), y.1)
