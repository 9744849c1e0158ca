-- A node with several children, by the list of its children.
use Rattle.std.proofs.Common.{◌≡◌, ◌+◌, ◌<◌, ◌≤◌, ℕ, suc, List, ◌∷◌, map, length, get_or, Vec, Global, Option, Some, vec_len, refl, ap, sym, ◌∙◌, subst, arith}
use Rattle.std.specs.List.{All}
use Rattle.std.proofs.lemmas.List.{length-map}
use Rattle.std.proofs.lemmas.List.Elements.{All-nil, All-cons}
use mathlib.Core.Former.{Count}
use Rattle.metrics_names.specs.declared.kind.MetricKind.{MetricKind}
use Rattle.metrics_rules.specs.Routing.{RouteTables, target_of, branch_of}
use Rattle.metrics_rules.specs.Nodes.{node_meaning, row_meanings, group_meaning, leaves_of, leaves_in, AreStarts, IsWithin, IsSound, IsRowSound, IsTree}
use Rattle.metrics_rules.specs.declared.node.Node.{Node, Group, Group', Row_of-Node, end_of-Node, more_of-Node, items-the_row-Node, items_hidden-the_row-Node-0}
use Rattle.metrics_rules.proofs.JoinedLemmas.{contents-group, starts-count, begins}
use Rattle.metrics_rules.proofs.RoutingLemmas.{target-within}
use Rattle.metrics_rules.proofs.OneChildLemmas.{before, inside, child-most}

abbrev row_of : Node → (n : Count) × Row_of-Node n
row_of (Group' _ row starts leaves routes) = (_, row)
row_of _ = (_, end_of-Node)

of_row : (n : _) (row : Row_of-Node n) → row_meanings row ≡ map node_meaning (items-the_row-Node n row)
of_row n end_of-Node = refl
of_row n (more_of-Node c rest) = ap (λ ms. node_meaning c ∷ ms) (of_row _ rest)

sound_row : (n : _) (row : Row_of-Node n) → IsRowSound row → All IsSound (items-the_row-Node n row)
sound_row n end_of-Node h = All-nil IsSound
sound_row n (more_of-Node c rest) h = All-cons IsSound c (items-the_row-Node _ rest) h.0 (sound_row _ rest h.1)

row_sound : (n : _) (row : Row_of-Node n) → All IsSound (items-the_row-Node n row) → IsRowSound row
row_sound n end_of-Node h = tt
row_sound n (more_of-Node c rest) h = (h 0 c (omega arith), row_sound _ rest (λ k d lt. h (suc k) d (omega arith)))

module _ (children : Vec Node Global) (starts : Vec ℕ Global) (leaves : ℕ) (routes : Option RouteTables) where
  abbrev group : Node
  group = Group children starts leaves routes

  same_items : items-the_row-Node (row_of group).0 (row_of group).1 ≡ children.items
  same_items = items_hidden-the_row-Node-0 children

  meanings-Group : row_meanings (row_of group).1 ≡ map node_meaning children.items
  meanings-Group = of_row (row_of group).0 (row_of group).1 ∙ ap (map node_meaning) same_items

  pub meaning-Group : node_meaning group ≡ group_meaning routes (map node_meaning children.items)
  meaning-Group = ap (group_meaning routes) meanings-Group

  -- what the node keeps of its children is true, and so is what each of them keeps
  pub record IsRow : Type 0 where
    pub starts_are : AreStarts starts.items (map node_meaning children.items)
    pub count : leaves ≡ leaves_in (map node_meaning children.items)
    pub within : IsWithin routes (length children.items)
    pub sound : All IsSound children.items

  length_row : length (row_meanings (row_of group).1) ≡ length children.items
  length_row = ap length meanings-Group ∙ length-map children.items node_meaning

  row-of-sound : IsSound group → IsRow
  row-of-sound h = record {
    starts_are = subst (AreStarts starts.items) meanings-Group h.0;
    count = h.1 ∙ ap leaves_in meanings-Group;
    within = subst (IsWithin routes) length_row h.2;
    sound = subst (All IsSound) same_items (sound_row (row_of group).0 (row_of group).1 h.3);
  }

  pub sound-of-row : IsRow → IsSound group
  sound-of-row h = (
    subst (AreStarts starts.items) (sym meanings-Group) h.starts_are,
    h.count ∙ ap leaves_in (sym meanings-Group),
    subst (IsWithin routes) (sym length_row) h.within,
    row_sound (row_of group).0 (row_of group).1 (subst (All IsSound) (sym same_items) h.sound),
  )

-- ---- a tree that is a group, and one of its children

pub record IsGroup (v : Vec Node Global) (starts : Vec ℕ Global) (leaves : ℕ) (routes : Option RouteTables) (old : Node) : Type 0 where
  pub is : old ≡ Group v starts leaves routes
  pub tree : IsTree old

pub group-of : (v : Vec Node Global) (starts : Vec ℕ Global) (leaves : ℕ) {o routes : Option RouteTables} {old : Node} → old ≡ Group v starts leaves o → o ≡ routes → IsTree old → IsGroup v starts leaves routes old
group-of v starts leaves is e tree = record { is = is ∙ ap (Group v starts leaves) e; tree = tree }

module _ {v : Vec Node Global} {starts : Vec ℕ Global} {leaves : ℕ} {routes : Option RouteTables} {old : Node} (group : IsGroup v starts leaves routes old) where
  pub meaning-is : node_meaning old ≡ group_meaning routes (map node_meaning v.items)
  meaning-is = ap node_meaning group.is ∙ meaning-Group v starts leaves routes

  pub row-is : IsRow v starts leaves routes
  row-is = row-of-sound v starts leaves routes (subst IsSound group.is group.tree.0)

  pub count-is : leaves_of (node_meaning old) ≡ leaves_in (map node_meaning v.items)
  count-is = ap leaves_of meaning-is ∙ ap length (contents-group routes (map node_meaning v.items))

  pub starts-within : length starts.items ≡ length v.items
  starts-within = starts-count starts.items (map node_meaning v.items) row-is.starts_are ∙ length-map v.items node_meaning

  pub indexes : {k : ℕ} → k < length v.items → (k < vec_len v) × (k < vec_len starts)
  indexes lt = (omega (arith, lt, v.ok.0), omega (arith, lt, starts-within, starts.ok.0))

  module _ (k : ℕ) (x : Node) (lt : k < length v.items) (at : x ≡ get_or v.items k x) where
    pub subtree : IsTree x
    subtree = (subst IsSound (sym at) (row-is.sound k x lt), (let p = child-most node_meaning v.items k x lt at in let m = group.tree.1 in omega (arith, p, count-is, m)))

    module _ (start : ℕ) (start-at : start ≡ get_or starts.items k start) where
      pub start-of : before node_meaning v.items k x lt at ≡ start
      start-of = sym (start-at ∙ begins starts.items (map node_meaning v.items) row-is.starts_are k (inside node_meaning v.items k x lt at) start)

      pub fits-in : start + leaves_of (node_meaning x) ≤ leaves_of (node_meaning old)
      fits-in = let p = child-most node_meaning v.items k x lt at in omega (arith, p, count-is, start-of)

-- the routes choose one of the children
module _ {v : Vec Node Global} {starts : Vec ℕ Global} {leaves : ℕ} {tables : RouteTables} {old : Node} (group : IsGroup v starts leaves (Some tables) old) (kind : MetricKind) where
  pub choice-is : (name : List ℕ) → branch_of (target_of tables kind name) < length v.items
  choice-is name = target-within tables (length v.items) (row-is group).within kind name

  pub chosen : (q name : List ℕ) (k : ℕ) → k ≡ branch_of (target_of tables kind q) → q ≡ name → (k < length v.items) × (k ≡ branch_of (target_of tables kind name))
  chosen q name k e same = let is = e ∙ ap (λ z. branch_of (target_of tables kind z)) same in (subst (λ i. i < length v.items) (sym is) (choice-is name), is)
