-- Reads and writes in two lists, one after the other, and in a part of a list.
use Rattle.std.proofs.Common.{◌≡◌, ℕ, zero, suc, ◌+◌, ◌<◌, List, [], ◌∷◌, ◌++◌, length, get_or, set, take, drop, refl, ap, ◌∙◌, arith}

-- a write in the first or the second of two lists
pub set_left : (xs ys : List ℕ) (k x : ℕ) → k < length xs → set (xs ++ ys) k x ≡ set xs k x ++ ys
set_left [] ys k x l = absurd (omega arith)
set_left (y ∷ xs) ys zero x l = refl
set_left (y ∷ xs) ys (suc k) x l = ap (λ (z : List ℕ). y ∷ z) (set_left xs ys k x (omega arith))

pub set_right : (xs ys : List ℕ) (n k x : ℕ) → n ≡ length xs + k → set (xs ++ ys) n x ≡ xs ++ set ys k x
set_right [] ys n k x e = ap (λ (z : ℕ). set ys z x) (omega arith)
set_right (y ∷ xs) ys zero k x e = absurd (omega arith)
set_right (y ∷ xs) ys (suc n) k x e = ap (λ (z : List ℕ). y ∷ z) (set_right xs ys n k x (omega arith))

pub get_left : (xs ys : List ℕ) (k : ℕ) → k < length xs → get_or (xs ++ ys) k 0 ≡ get_or xs k 0
get_left [] ys k l = absurd (omega arith)
get_left (y ∷ xs) ys zero l = refl
get_left (y ∷ xs) ys (suc k) l = get_left xs ys k (omega arith)

pub get_right : (xs ys : List ℕ) (n k : ℕ) → n ≡ length xs + k → get_or (xs ++ ys) n 0 ≡ get_or ys k 0
get_right [] ys n k e = ap (λ (z : ℕ). get_or ys z 0) (omega arith)
get_right (y ∷ xs) ys zero k e = absurd (omega arith)
get_right (y ∷ xs) ys (suc n) k e = get_right xs ys n k (omega arith)

abbrev empty : List ℕ
empty = []

none_taken : (n i : ℕ) → get_or (take n empty) i 0 ≡ 0
none_taken zero i = refl
none_taken (suc n) i = refl

nowhere : (b n i : ℕ) → get_or (take n (drop b empty)) i 0 ≡ get_or empty (b + i) 0
nowhere zero n i = none_taken n i
nowhere (suc b) n i = none_taken n i

pub get_take_drop : (xs : List ℕ) (b n i : ℕ) → i < n → get_or (take n (drop b xs)) i 0 ≡ get_or xs (b + i) 0
get_take_drop [] b n i l = nowhere b n i
get_take_drop (x ∷ xs) zero zero i l = absurd (omega arith)
get_take_drop (x ∷ xs) zero (suc n) zero l = refl
get_take_drop (x ∷ xs) zero (suc n) (suc i) l = get_take_drop xs 0 n i (omega arith) ∙ (let shift : suc (0 + i) ≡ 0 + suc i = omega arith in (λ k. get_or (x ∷ xs) (shift k) 0))
get_take_drop (x ∷ xs) (suc b) n i l = get_take_drop xs b n i l ∙ (let shift : suc (b + i) ≡ suc b + i = omega arith in (λ k. get_or (x ∷ xs) (shift k) 0))
