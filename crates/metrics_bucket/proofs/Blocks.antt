-- Chunks of a list.
use Rattle.std.proofs.Common.{◌≡◌, ℕ, zero, suc, ◌+◌, ◌-◌, ◌*◌, ◌/◌, ◌<◌, ◌≤◌, List, [], ◌∷◌, ◌++◌, length, get_or, take, drop, map, reverse, refl, sym, ap, ◌∙◌, arith, append_assoc, length-append, length-drop, min}
use mathlib.Core.Logic.{dite}
use native.Mathlib.Decide.{dec_le}
use mathlib.Core.List.{map-append}
use Rattle.metrics_bucket.specs.Facts.{weigh}
use Rattle.std.proofs.lemmas.List.{reverse-append}
use Rattle.metrics.specs.Book.{chunks_within, joined_lists, blocks}
use Rattle.metrics_bucket.specs.Blocks.{newest_first}
use Rattle.metrics_bucket.proofs.Sums.{weigh-append}

take-more : (n m : ℕ) (xs : List ℕ) → take (n + m) xs ≡ take n xs ++ take m (drop n xs)
take-more zero m xs = let e : 0 + m ≡ m = omega arith in ap (λ (k : ℕ). take k xs) e
take-more (suc n) zero [] = (let e : suc n + 0 ≡ suc n = omega arith in ap (λ (k : ℕ). take k xs_none) e)
  where
    xs_none : List ℕ
    xs_none = []
take-more (suc n) (suc m) [] = let e : suc n + suc m ≡ suc (n + suc m) = omega arith in ap (λ (k : ℕ). take k nothing) e
  where
    nothing : List ℕ
    nothing = []
take-more (suc n) m (x ∷ xs) = let e : suc n + m ≡ suc (n + m) = omega arith in ap (λ (k : ℕ). take k (x ∷ xs)) e ∙ ap (λ (l : List ℕ). x ∷ l) (take-more n m xs)

take-all : (n : ℕ) (xs : List ℕ) → length xs ≤ n → take n xs ≡ xs
take-all zero [] l = refl
take-all (suc n) [] l = refl
take-all zero (x ∷ xs) l = absurd (omega arith)
take-all (suc n) (x ∷ xs) l = ap (λ (l : List ℕ). x ∷ l) (take-all n xs (omega arith))

-- the chunk of this number: at most 64 values
abbrev pub chunk : ℕ → List ℕ → List ℕ
chunk n vs = take 64 (drop (64 * n) vs)

-- the first n chunks, the newest first
abbrev pub first_chunks : ℕ → List ℕ → List ℕ
first_chunks zero vs = []
first_chunks (suc n) vs = chunk n vs ++ first_chunks n vs

-- k chunks from the number c on, the newest first
abbrev pub chunks_from : ℕ → ℕ → List ℕ → List (List ℕ)
chunks_from c zero vs = []
chunks_from c (suc k) vs = chunk (c + k) vs ∷ chunks_from c k vs

pub chunks_front : (V : List ℕ) (c k : ℕ) → chunks_from c (suc k) V ≡ chunks_from (suc c) k V ++ chunk c V ∷ []
chunks_front V c zero = let e : c + 0 ≡ c = omega arith in λ i. chunk (e i) V ∷ []
chunks_front V c (suc k) = let e : c + suc k ≡ suc c + k = omega arith in λ i. chunk (e i) V ∷ chunks_front V c k i

pub drop_more : (xs : List ℕ) (a b : ℕ) → drop (a + b) xs ≡ drop b (drop a xs)
drop_more xs zero b = let e : 0 + b ≡ b = omega arith in ap (λ (k : ℕ). drop k xs) e
drop_more [] (suc a) b = let e : suc a + b ≡ suc (a + b) = omega arith in ap (λ (k : ℕ). drop k nothing) e ∙ none b
  where
    nothing : List ℕ
    nothing = []

    none : (b : ℕ) → drop (suc (a + b)) nothing ≡ drop b nothing
    none zero = refl
    none (suc b) = refl
drop_more (x ∷ xs) (suc a) b = let e : suc a + b ≡ suc (a + b) = omega arith in ap (λ (k : ℕ). drop k (x ∷ xs)) e ∙ drop_more xs a b

-- the chunks by number are those that the list is cut into
chunks_cut : (n c k : ℕ) (vs ys : List ℕ) → drop (64 * c) vs ≡ ys → length ys ≤ n → k ≡ (length ys + 63) / 64 → chunks_from c k vs ≡ reverse (chunks_within n ys)
chunks_cut n c zero vs [] is fits count = none_cut n
  where
    none_cut : (n : ℕ) → chunks_from c 0 vs ≡ reverse (chunks_within n [])
    none_cut zero = refl
    none_cut (suc n) = refl
chunks_cut n c (suc k) vs [] is fits count = absurd (omega arith)
chunks_cut n c zero vs (y ∷ ys) is fits count = absurd (omega arith)
chunks_cut zero c (suc k) vs (y ∷ ys) is fits count = absurd (omega arith)
chunks_cut (suc n) c (suc k) vs (y ∷ ys) is fits count =
    let rest : List ℕ = drop 64 (y ∷ ys) in
    let long = length-drop 64 (y ∷ ys) in
    let next : 64 * suc c ≡ 64 * c + 64 = omega arith in
    let cut : drop (64 * suc c) vs ≡ rest = ap (λ (m : ℕ). drop m vs) next ∙ (drop_more vs (64 * c) 64 ∙ ap (drop 64) is) in
    let r = chunks_cut n (suc c) k vs rest cut (omega arith) (omega arith) in
    chunks_front vs c k ∙ ((λ i. r i ++ take 64 (is i) ∷ []) ∙ sym (reverse-append (take 64 (y ∷ ys) ∷ []) (chunks_within n rest)))

pub chunks_newest : (vs : List ℕ) → chunks_from 0 ((length vs + 63) / 64) vs ≡ newest_first vs
chunks_newest vs = chunks_cut (length vs) 0 ((length vs + 63) / 64) vs vs refl (omega arith) refl

joined_first : (k : ℕ) (vs : List ℕ) → joined_lists (chunks_from 0 k vs) ≡ first_chunks k vs
joined_first zero vs = refl
joined_first (suc k) vs = let e : 0 + k ≡ k = omega arith in λ i. chunk (e i) vs ++ joined_first k vs i

-- and their values are in the bucket's order
pub chunks_joined : (vs : List ℕ) → first_chunks ((length vs + 63) / 64) vs ≡ blocks vs
chunks_joined vs = sym (joined_first ((length vs + 63) / 64) vs) ∙ ap joined_lists (chunks_newest vs)

weigh_chunks : (h : ℕ → ℕ) (n : ℕ) (vs : List ℕ) → weigh h (first_chunks n vs) ≡ weigh h (take (64 * n) vs)
weigh_chunks h zero vs = refl
weigh_chunks h (suc n) vs =
    let r = weigh_chunks h n vs in
    let a = weigh-append h (chunk n vs) (first_chunks n vs) in
    let e : 64 * suc n ≡ 64 * n + 64 = omega arith in
    let b : weigh h (take (64 * suc n) vs) ≡ weigh h (take (64 * n) vs ++ chunk n vs) = ap (weigh h) (ap (λ (k : ℕ). take k vs) e ∙ take-more (64 * n) 64 vs) in
    let c = weigh-append h (take (64 * n) vs) (chunk n vs) in
    omega arith

-- the chunks have the values of the list
pub weigh_blocks : (h : ℕ → ℕ) (vs : List ℕ) → weigh h (blocks vs) ≡ weigh h vs
weigh_blocks h vs = ap (weigh h) (sym (chunks_joined vs)) ∙ weigh_chunks h ((length vs + 63) / 64) vs ∙ ap (weigh h) (take-all (64 * ((length vs + 63) / 64)) vs (omega arith))

take_next : (xs : List ℕ) (n : ℕ) → n < length xs → take (suc n) xs ≡ take n xs ++ get_or xs n 0 ∷ []
take_next [] n l = absurd (omega arith)
take_next (x ∷ xs) zero l = refl
take_next (x ∷ xs) (suc n) l = ap (λ (l : List ℕ). x ∷ l) (take_next xs n (omega arith))

get_drop : (xs : List ℕ) (b i : ℕ) → get_or (drop b xs) i 0 ≡ get_or xs (b + i) 0
get_drop xs zero i = let e : i ≡ 0 + i = omega arith in ap (λ (k : ℕ). get_or xs k 0) e
get_drop [] (suc b) i = refl
get_drop (x ∷ xs) (suc b) i = get_drop xs b i ∙ (let e : suc (b + i) ≡ suc b + i = omega arith in ap (λ (k : ℕ). get_or (x ∷ xs) k 0) e)

pub part_next : (vs : List ℕ) (start at : ℕ) → start ≤ at → at < length vs → take (at + 1 - start) (drop start vs) ≡ take (at - start) (drop start vs) ++ get_or vs at 0 ∷ []
part_next vs start at l m =
    let n : ℕ = at - start in
    let d = length-drop start vs in
    let e : at + 1 - start ≡ suc n = omega arith in
    let f : start + n ≡ at = omega arith in
    ap (λ (k : ℕ). take k (drop start vs)) e ∙ (take_next (drop start vs) n (omega arith) ∙ ap (λ (x : ℕ). take n (drop start vs) ++ x ∷ []) (get_drop vs start n ∙ ap (λ (k : ℕ). get_or vs k 0) f))

-- a loop that appends the values of one chunk to the others
pub chunk_step : {T : Type 0} (f : ℕ → T) (vs : List ℕ) (start at bits : ℕ) (first items more : List T) → start ≤ at → at < length vs → items ≡ first ++ map f (take (at - start) (drop start vs)) → bits ≡ get_or vs at 0
    → more ≡ items ++ f bits ∷ [] → more ≡ first ++ map f (take (at + 1 - start) (drop start vs))
chunk_step {T} f vs start at bits first items more l m is found push =
    let A : List ℕ = take (at - start) (drop start vs) in
    push ∙ (ap (λ (z : List T). z ++ f bits ∷ []) is ∙ (append_assoc first (map f A) (f bits ∷ []) ∙ ap (λ (z : List T). first ++ z)
    (ap (λ (x : ℕ). map f A ++ f x ∷ []) found ∙ (sym (map-append f A (get_or vs at 0 ∷ [])) ∙ ap (map f) (sym (part_next vs start at l m))))))

weigh_one : (xs : List ℕ) → weigh (λ _. 1) xs ≡ length xs
weigh_one [] = refl
weigh_one (x ∷ xs) = let r = weigh_one xs in omega arith

pub length_blocks : (vs : List ℕ) → length (blocks vs) ≡ length vs
length_blocks vs = sym (weigh_one (blocks vs)) ∙ (weigh_blocks (λ _. 1) vs ∙ weigh_one vs)

pub length_map : {T : Type 0} (f : ℕ → T) (xs : List ℕ) → length (map f xs) ≡ length xs
length_map f [] = refl
length_map f (x ∷ xs) = ap suc (length_map f xs)

-- how many values are appended, while these chunks are to come
pub count_of : {T : Type 0} (f : ℕ → T) (vs : List ℕ) (n : ℕ) (items : List T) → items ++ map f (first_chunks n vs) ≡ map f (blocks vs) → length items + length (first_chunks n vs) ≡ length vs
count_of {T} f vs n items e =
    let a : length (items ++ map f (first_chunks n vs)) ≡ length (map f (blocks vs)) = ap length e in
    let b = length-append items (map f (first_chunks n vs)) in
    let c = length_map f (first_chunks n vs) in
    let d = length_map f (blocks vs) in
    let k = length_blocks vs in
    omega arith

-- a chunk is cut at the list's end
pub chunk_cut : (vs : List ℕ) (n e : ℕ) → e ≡ min (length vs) (64 * n + 64) → 64 * n ≤ length vs → take (e - 64 * n) (drop (64 * n) vs) ≡ chunk n vs
chunk_cut vs n e is l =
    let d = length-drop (64 * n) vs in
    dite (dec_le (64 * n + 64) (length vs))
    (λ full. let k : e - 64 * n ≡ 64 = omega arith in ap (λ (m : ℕ). take m (drop (64 * n) vs)) k)
    (λ cut. take-all (e - 64 * n) (drop (64 * n) vs) (omega arith) ∙ sym (take-all 64 (drop (64 * n) vs) (omega arith)))

pub chunks_step : {T : Type 0} (f : ℕ → T) (vs : List ℕ) (n chunks : ℕ) (items more all : List T) → chunks ≡ suc n → more ≡ items ++ map f (chunk n vs) → items ++ map f (first_chunks chunks vs) ≡ all → more ++ map f (first_chunks n vs) ≡ all
chunks_step {T} f vs n chunks items more all is push e =
    ap (λ (z : List T). z ++ map f (first_chunks n vs)) push
    ∙ (append_assoc items (map f (chunk n vs)) (map f (first_chunks n vs))
    ∙ (ap (λ (z : List T). items ++ z) (sym (map-append f (chunk n vs) (first_chunks n vs)) ∙ ap (λ (k : ℕ). map f (first_chunks k vs)) (sym is)) ∙ e))

pub chunk_length : (vs : List ℕ) (n chunks : ℕ) → chunks ≡ suc n → length (chunk n vs) ≤ length (first_chunks chunks vs)
chunk_length vs n chunks is = let a = length-append (chunk n vs) (first_chunks n vs) in let b : length (first_chunks chunks vs) ≡ length (chunk n vs ++ first_chunks n vs) = ap (λ (k : ℕ). length (first_chunks k vs)) is in omega arith
