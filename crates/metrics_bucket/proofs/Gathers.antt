-- Chunks that are gathered in one list.
use Rattle.std.proofs.Common.{◌≡◌, ℕ, zero, suc, ◌+◌, ◌-◌, ◌/◌, ◌≤◌, List, [], ◌∷◌, ◌++◌, length, map, refl, sym, ap, ◌∙◌, arith, length-append, append-nil, append_assoc}
use Rattle.std.proofs.lemmas.List.{take_all}
use Rattle.std.specs.Global.{Vec}
use Rattle.std.specs.Prelude.{vec_capacity}
use Rattle.std.specs.List.{FoldsTo}
use mathlib.Core.List.{map-append}
use Rattle.metrics_bucket.specs.Blocks.{newest_first, valued}
use Rattle.metrics.specs.Book.{joined_lists, blocks}
use Rattle.metrics_bucket.specs.Gathers.{Gathers}
use Rattle.metrics_bucket.proofs.Blocks.{chunk, first_chunks, chunks_from, chunks_newest, chunks_joined, length_map, length_blocks}

-- if there is room for all, all are appended
pub gathers_all : {T : Type 0} (v w : Vec T) (xs : List T) → Gathers v xs w → length v.items + length xs ≤ vec_capacity v → (w.items ≡ v.items ++ xs) × (vec_capacity w ≡ vec_capacity v)
gathers_all {T} v w xs put room = (put.0 ∙ ap (λ (l : List T). v.items ++ l) (take_all (vec_capacity v - length v.items) xs (omega arith)), put.1)

pub gathers_fold : {T : Type 0} (xss : List (List T)) (v w : Vec T) → FoldsTo Gathers v xss w → length v.items + length (joined_lists xss) ≤ vec_capacity v → w.items ≡ v.items ++ joined_lists xss
gathers_fold {T} [] v w e room = ap (λ (z : Vec T). z.items) (sym e) ∙ sym (append-nil v.items)
gathers_fold {T} (xs ∷ xss) v w (u, r, f) room =
    let a = length-append xs (joined_lists xss) in
    let step = gathers_all v u xs r (omega arith) in
    let b = length-append v.items xs in
    let c : length u.items ≡ length (v.items ++ xs) = ap (λ (l : List T). length l) step.0 in
    let d = step.1 in
    gathers_fold xss u w f (omega arith) ∙ (ap (λ (l : List T). l ++ joined_lists xss) step.0 ∙ append_assoc v.items xs (joined_lists xss))

joined_chunks : {T : Type 0} (f : ℕ → T) (k : ℕ) (vs : List ℕ) → joined_lists (valued f (chunks_from 0 k vs)) ≡ map f (first_chunks k vs)
joined_chunks f zero vs = refl
joined_chunks {T} f (suc k) vs =
    let e : 0 + k ≡ k = omega arith in
    (λ i. map f (chunk (e i) vs) ++ joined_chunks f k vs i) ∙ sym (map-append f (chunk k vs) (first_chunks k vs))

-- what is gathered, if there was room for all
pub gathered_are : {T : Type 0} (f : ℕ → T) (list : List ℕ) (v w : Vec T) → v.items ≡ [] → length list ≤ vec_capacity v → FoldsTo Gathers v (valued f (newest_first list)) w → w.items ≡ map f (blocks list)
gathered_are {T} f list v w none room folds =
    let is = ap (λ (l : List (List ℕ)). joined_lists (valued f l)) (sym (chunks_newest list)) ∙ (joined_chunks f ((length list + 63) / 64) list ∙ ap (map f) (chunks_joined list)) in
    let a : length (joined_lists (valued f (newest_first list))) ≡ length (map f (blocks list)) = ap (λ (l : List T). length l) is in
    let b = length_map f (blocks list) in
    let c = length_blocks list in
    let d : length v.items ≡ 0 = ap (λ (l : List T). length l) none in
    gathers_fold (valued f (newest_first list)) v w folds (omega arith) ∙ (ap (λ (l : List T). l ++ joined_lists (valued f (newest_first list))) none ∙ is)

pub gathered_many : {T : Type 0} (f : ℕ → T) (list : List ℕ) (v w : Vec T) → v.items ≡ [] → length list ≤ vec_capacity v → FoldsTo Gathers v (valued f (newest_first list)) w → length w.items ≡ length list
gathered_many {T} f list v w none room folds =
    let are = gathered_are f list v w none room folds in
    ap (λ (l : List T). length l) are ∙ (length_map f (blocks list) ∙ length_blocks list)
