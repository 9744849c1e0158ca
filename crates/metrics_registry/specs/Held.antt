-- A finite map from keys to cells, as the list of its entries, and its division into shards.
use Rattle.std.specs.Prelude.{◌≡◌, ℕ, suc, ◌%◌, Bool, ◌&&◌, nat_le, true, false, if◌then◌else◌, List, [], ◌∷◌, ◌++◌, Option, None, Some, Result, MatchResult, MatchOption, IsSome, IsSomeAnd, is_some, position, slice_get}
use Rattle.std.specs.List.{AllByRecursion, FoldsTo, IsDistinct}
use Rattle.std.specs.Map.{lookup, keys_of, values_of, update}
use Rattle.indexmap.specs.IndexMap.{set_value_at}
use Rattle.std.specs.HashMap.{HashMap, get}
use Rattle.std.specs.Int.{is_power_of_two}
use Rattle.std.specs.Borrow.{Bor}
use Rattle.std.specs.Fn.{Called, Mut, Takes}
use Rattle.metrics.specs.declared.error.Error.{Error}
use Rattle.metrics.specs.declared.error.Error.TheVariants.{Memory}

-- a registry: its storage, the number of its shards, and for each kind the entries of all shards, one shard after another
pub record Registry (S K C G H : Type 0) : Type 0 where
  pub storage : S
  pub count : ℕ
  pub counters : List (K × C)
  pub gauges : List (K × G)
  pub histograms : List (K × H)

-- what stays if one kind's entries may change
abbrev pub CountersAlone : {S K C G H : Type 0} → Registry S K C G H → Registry S K C G H → Type 0
CountersAlone old new = (new.storage ≡ old.storage) × (new.count ≡ old.count) × (new.gauges ≡ old.gauges) × (new.histograms ≡ old.histograms)

abbrev pub GaugesAlone : {S K C G H : Type 0} → Registry S K C G H → Registry S K C G H → Type 0
GaugesAlone old new = (new.storage ≡ old.storage) × (new.count ≡ old.count) × (new.counters ≡ old.counters) × (new.histograms ≡ old.histograms)

abbrev pub HistogramsAlone : {S K C G H : Type 0} → Registry S K C G H → Registry S K C G H → Type 0
HistogramsAlone old new = (new.storage ≡ old.storage) × (new.count ≡ old.count) × (new.counters ≡ old.counters) × (new.gauges ≡ old.gauges)

-- the cell of a key
abbrev pub held : {K C : Type 0} → (K → K → Bool) → List (K × C) → K → Option C
held eq es k = lookup (eq k) es

-- the same cells, but for w at a key
abbrev pub Sets : {K C : Type 0} → (K → K → Bool) → K → Option C → List (K × C) → List (K × C) → Type 0
Sets {K} eq key w old new = (q : K) → held eq new q ≡ update eq (held eq old) key w q

-- one call changed the cell of a key that was held, and gave v
abbrev pub Calls : {K C V : Type 0} → (K → K → Bool) → (C → V → C → Type 0) → K → V → List (K × C) → List (K × C) → Type 0
Calls {K} {C} eq call key v old new = (before : C) × (after : C) × (held eq old key ≡ Some before) × call before v after × Sets eq key (Some after) old new

-- a cell was added at a key as one call left it, which gave v
abbrev pub Adds : {K C V : Type 0} → (K → K → Bool) → (C → V → C → Type 0) → K → C → V → List (K × C) → List (K × C) → Type 0
Adds {K} {C} eq call key cell v old new = (after : C) × call cell v after × Sets eq key (Some after) old new

-- the cell of a key that is held, or a new one
abbrev pub IsCellOf : {C : Type 0} → (C → Type 0) → Option C → C → Type 0
IsCellOf Makes None c = Makes c
IsCellOf Makes (Some old) c = c ≡ old

-- one call changed the cell of a key, which was made if the key wasn't held, and returned v
abbrev pub CallsAt : {K C V : Type 0} → (K → K → Bool) → (K → C → Type 0) → (C → V → C → Type 0) → K → V → List (K × C) → List (K × C) → Type 0
CallsAt {K} {C} {V} eq Makes call key v old new =
    (before : C) × (after : C) × IsCellOf (Makes key) (held eq old key) before × call before v after × Sets eq key (Some after) old new

-- a call may be made at the cell of a key, or if the key isn't held at each cell that is made
abbrev pub MayCall : {K C : Type 0} → (K → K → Bool) → (K → C → Type 0) → (C → Type 0) → K → List (K × C) → Type 0
MayCall {K} {C} eq Makes Takes key es = (cell : C) → IsCellOf (Makes key) (held eq es key) cell → Takes cell

-- a key was removed, if it was held
abbrev pub Removes : {K C : Type 0} → (K → K → Bool) → K → Bool → List (K × C) → List (K × C) → Type 0
Removes eq key was_held old new = Sets eq key None old new × (was_held ≡ is_some (held eq old key)) × (was_held ≡ false → new ≡ old)

-- ---- places

-- the place of a key among entries
abbrev pub place_of : {K C : Type 0} → (K → K → Bool) → List (K × C) → K → Option ℕ
place_of eq es key = position (eq key) (keys_of es)

-- one call changed the cell at a place and gave v; keys and other cells stay
abbrev pub ChangesAt : {K C V : Type 0} → (C → V → C → Type 0) → ℕ → V → List (K × C) → List (K × C) → Type 0
ChangesAt {K} {C} call place v old new = (before : C) × (after : C) × (slice_get (values_of old) place ≡ Some before) × call before v after × (new ≡ set_value_at old place after)

-- an entry was added at the end: a clone of the key, and the cell as one call left it, which gave v
abbrev pub Appends : {K C V : Type 0} → (K → K → Type 0) → (C → V → C → Type 0) → K → C → V → List (K × C) → List (K × C) → Type 0
Appends {K} {C} clone call key cell v old new = (k : K) × (after : C) × clone key k × call cell v after × (new ≡ old ++ (k, after) ∷ [])

-- if a key was held all keys stay where they are; if entries are in one shard, a key that was not held comes to the end
abbrev pub KeepsPlaces : {K C V : Type 0} → (K → K → Bool) → (K → K → Type 0) → (K → C → Type 0) → (C → V → C → Type 0) → Type 0 → K → V → List (K × C) → List (K × C) → Type 0
KeepsPlaces {K} {C} eq clone Makes call InOneShard key v old new =
    (IsSome (held eq old key) → keys_of new ≡ keys_of old)
    × (held eq old key ≡ None → InOneShard → (cell : C) × Makes key cell × Appends clone call key cell v old new)

-- one call was made on the cell of a key, which was made if the key wasn't held; a call that fails changes nothing, and no
-- call for a held key fails
abbrev pub GetsOrCreates : {K C V : Type 0} → (K → K → Bool) → (K → K → Type 0) → (K → C → Type 0) → (C → V → C → Type 0) → Type 0 → K → Result V Error → List (K × C) → List (K × C) → Type 0
GetsOrCreates eq clone Makes call InOneShard key result old new = MatchResult result
    (λ v. CallsAt eq Makes call key v old new × KeepsPlaces eq clone Makes call InOneShard key v old new)
    (λ e. (e ≡ Memory) × (new ≡ old) × (held eq old key ≡ None))

-- ---- shards

-- a power of two from 1 to 1,024
abbrev pub is_shard_count : ℕ → Bool
is_shard_count n = is_power_of_two n && nat_le n 1024

-- the entries of all shards, one shard after another
abbrev pub entries_of : {K C : Type 0} → List (List (K × C)) → List (K × C)
entries_of [] = []
entries_of (es ∷ shards) = es ++ entries_of shards

-- each key of the entries is of the shard
abbrev pub AreOf : {K C : Type 0} → (K → ℕ) → ℕ → ℕ → List (K × C) → Type 0
AreOf number count shard es = AllByRecursion (λ e. number e.0 % count ≡ shard) es

-- the shard of a key among all entries: it holds the key as they do, and no key is in them twice
abbrev pub IsShardOf : {K C : Type 0} → (K → K → Bool) → K → List (K × C) → List (K × C) → Type 0
IsShardOf eq key shard all = (held eq shard key ≡ held eq all key) × IsDistinct eq (keys_of all)

-- from a shard on, each key is in its own shard, and no key twice
abbrev pub ArePlaced : {K C : Type 0} → (K → K → Bool) → (K → ℕ) → ℕ → ℕ → List (List (K × C)) → Type 0
ArePlaced eq number count shard [] = Unit {0}
ArePlaced eq number count shard (es ∷ shards) =
    AreOf number count shard es × IsDistinct eq (keys_of es) × ArePlaced eq number count (suc shard) shards

-- ---- calls

-- a call of f at a `&` to a key and one to its cell may return r, and leave f as f'
pub record CallsAtEntry {F K C R : Type 0} (g : Mut F (Bor K × (Bor C × Unit {0})) R) (f : F) (e : K × C) (r : R) (f' : F) : Type 0 where
  pub key : Bor K
  pub cell : Bor C
  pub shows : (key.now ≡ e.0) × (cell.now ≡ e.1)
  pub called : Called g f (key, (cell, tt)) r f'

-- some call at an entry may leave f as f'
abbrev pub SomeCallAtEntry : {F K C R : Type 0} → Mut F (Bor K × (Bor C × Unit {0})) R → F → K × C → F → Type 0
SomeCallAtEntry {F} {K} {C} {R} g f e f' = (r : R) × CallsAtEntry g f e r f'

-- f may be called at each entry, as the calls at those before it left f
pub record TakesEach {F K C R : Type 0} (g : Mut F (Bor K × (Bor C × Unit {0})) R) (f : F) (es : List (K × C)) : Type 0 where
  pub at : (before after : List (K × C)) (f' : F) (e : K × C) → es ≡ before ++ e ∷ after → FoldsTo (SomeCallAtEntry g) f before f'
      → (key : Bor K) (cell : Bor C) → key.now ≡ e.0 → cell.now ≡ e.1 → Takes g f' (key, (cell, tt))

-- calls of f at each item in turn answered, and left last; kept has the items at which they answered true
abbrev pub Retains : {F X : Type 0} → (F → X → Bool → F → Type 0) → F → List X → List X → F → Type 0
Retains call f [] kept last = (kept ≡ []) × (last ≡ f)
Retains {F} {X} call f (x ∷ xs) kept last = (b : Bool) × (g : F) × (rest : List X) × call f x b g × Retains call g xs rest last × (kept ≡ (if b then x ∷ rest else rest))

-- f was called once at each entry, in order, and was left as last
abbrev pub CallsEach : {F K C : Type 0} → Mut F (Bor K × (Bor C × Unit {0})) (Unit {0}) → F → List (K × C) → F → Type 0
CallsEach g f es last = FoldsTo (λ p e q. CallsAtEntry g p e tt q) f es last

-- so it was, and new has the entries at which it answered true, in order
abbrev pub RetainsEach : {F K C : Type 0} → Mut F (Bor K × (Bor C × Unit {0})) Bool → F → List (K × C) → List (K × C) → F → Type 0
RetainsEach g f old new last = Retains (λ p e b q. CallsAtEntry g p e b q) f old new last

-- new has a clone of the cell of each key that is held, and else what old has
abbrev pub Copies : {K C : Type 0} → (K → K → Bool) → (C → C → Type 0) → List (K × C) → (K → Option C) → (K → Option C) → Type 0
Copies {K} eq clone es old new = (q : K) → MatchOption (held eq es q) (new q ≡ old q) (λ c. IsSomeAnd (new q) (clone c))

-- so it is of the first n entries, after which there is another one
abbrev pub CopiesFront : {K C : Type 0} → (K → K → Bool) → (C → C → Type 0) → List (K × C) → (K → Option C) → (K → Option C) → Type 0
CopiesFront {K} {C} eq clone es old new =
    (front : List (K × C)) × (next : K × C) × (rest : List (K × C)) × (es ≡ front ++ next ∷ rest) × Copies eq clone front old new

-- a map has a clone of each cell, and nothing else; or memory ran out, if there are entries
abbrev pub AreCopied : {K C S : Type 0} → (K → K → Bool) → (C → C → Type 0) → List (K × C) → Result (HashMap K C S) Error → Type 0
AreCopied {K} {C} eq clone es result = MatchResult result (λ m. Copies eq clone es (λ _. None) (get eq m)) (λ e. (e ≡ Memory) × ¬ (es ≡ []))

-- ---- what stays

-- if a key stays nothing changed, and else it is gone
abbrev pub StaysOrGoes : {K C : Type 0} → (K → K → Bool) → K → Bool → List (K × C) → List (K × C) → Type 0
StaysOrGoes eq key true old new = new ≡ old
StaysOrGoes eq key false old new = Sets eq key None old new
