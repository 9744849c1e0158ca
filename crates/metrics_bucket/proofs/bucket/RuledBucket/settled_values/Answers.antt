use Rattle.std.proofs.Common.{rules, ◌≡◌, ℕ, suc, ◌+◌, ◌-◌, ◌*◌, ◌/◌, ◌≤◌, List, ◌++◌, length, map, min, take, drop, sym, ap, ◌∙◌, subst, arith, append-nil}
use Rattle.metrics_bucket.specs.Facts.{weigh}
use Rattle.metrics_bucket.specs.Steps.{Seated, values_known}
use Rattle.metrics.specs.Book.{blocks}
use Rattle.metrics_bucket.specs.Places.{Covers}
use Rattle.metrics_bucket.specs.BucketState.{walk}
use Rattle.metrics_bucket.proofs.Allowed.{gathers_all}
use Rattle.metrics_bucket.proofs.Blocks.{chunk, first_chunks, chunks_joined, count_of, chunk_cut, chunks_step, chunk_length, weigh_blocks}
use Rattle.metrics_bucket.proofs.bucket.RuledBucket.settled_values.Goals as goal

pub load-control-requires : goal.load-control-requires
load-control-requires g c = (search rules, search rules, gathers_all _ _ _ _ _ c.requires.whole.0 c.requires.whole.1)

pub loop-chunks-init : goal.loop-chunks-init
loop-chunks-init g c =
    let t = c.load-control.ensures.2 in
    let V : List ℕ = values_known c.load-control.new.seat.me.0.hold in
    let known : V ≡ t.0 = ap (λ (m : Seated). values_known m.0.hold) t.1 in
    let len : length V ≡ c.load-control.result / 2 = ap length known ∙ t.2 in
    let n : ℕ = (c.load-control.result / 2 + 63) / 64 in
    record {
      table = search rules;
      me = search rules;
      items = ap (λ (l : List g.row.T.Denot). l ++ map g.T.Sample.value (first_chunks n V)) c.requires.room.0 ∙ (ap (λ (k : ℕ). map g.T.Sample.value (first_chunks ((k + 63) / 64) V)) (sym len) ∙ ap (map g.T.Sample.value) (chunks_joined V));
      chunks = omega arith;
      room = search rules;
    }

pub returns : goal.returns
returns g c =
    let t = c.load-control.ensures.2 in
    let V : List ℕ = values_known c.load-control.new.seat.me.0.hold in
    let known : V ≡ t.0 = ap (λ (m : Seated). values_known m.0.hold) t.1 in
    let i = c.loop-chunks.invariant in
    let none : c.loop-chunks.chunks ≡ 0 = omega arith in
    let all : c.loop-chunks.values.items ≡ map g.T.Sample.value (blocks V) = sym (append-nil c.loop-chunks.values.items) ∙ (ap (λ (k : ℕ). c.loop-chunks.values.items ++ map g.T.Sample.value (first_chunks k V)) (sym none) ∙ i.items) in (
      (
        V,
        all,
        λ h. let b = t.4 h in let w = weigh_blocks h V in let k : weigh h V ≡ weigh h t.0 = ap (weigh h) known in omega arith,
        subst (λ (l : List ℕ). Covers c.args.seat.now.me.0.pushed (walk (length c.args.seat.now.me.0.taken) l)) (sym known) t.6,
      ),
      t.5,
    )

pub loop-chunks-preserved : goal.loop-chunks-preserved
loop-chunks-preserved g c =
    let t = c.load-control.ensures.2 in
    let V : List ℕ = values_known c.load-control.new.seat.me.0.hold in
    let known : V ≡ t.0 = ap (λ (m : Seated). values_known m.0.hold) t.1 in
    let len : length V ≡ c.load-control.result / 2 = ap length known ∙ t.2 in
    let i = c.loop-chunks.invariant in
    let e = c.settled_chunk.ensures in
    let n : ℕ = c.loop-chunks.chunks - 1 in
    let is : c.loop-chunks.chunks ≡ suc n = omega arith in
    let many = i.chunks in
    let at_most : 64 * n ≤ length V = omega arith in
    let end : c.min-end.result ≡ min (length V) (64 * n + 64) = c.min-end.ensures ∙ ap (λ (k : ℕ). min k (64 * n + 64)) (sym len) in
    let cut = chunk_cut V n c.min-end.result end at_most in
    let same : values_known c.loop-chunks.seat.me.0.hold ≡ V = ap (λ (m : Seated). values_known m.0.hold) i.me in
    let push : c.settled_chunk.new.values.items ≡ c.loop-chunks.values.items ++ map g.T.Sample.value (chunk n V) =
    e.values ∙ ap (λ (l : List ℕ). c.loop-chunks.values.items ++ map g.T.Sample.value l) (ap (λ (l : List ℕ). take (c.min-end.result - 64 * n) (drop (64 * n) l)) same ∙ cut)
    in
    record {
      table = e.seat.0 ∙ i.table;
      me = e.seat.1 ∙ i.me;
      items = chunks_step g.T.Sample.value V n c.loop-chunks.chunks c.loop-chunks.values.items c.settled_chunk.new.values.items _ is push i.items;
      chunks = omega arith;
      room = e.room ∙ i.room;
    }

pub settled_chunk-requires-clause-part : goal.settled_chunk-requires-clause-part
settled_chunk-requires-clause-part g c =
    let t = c.load-control.ensures.2 in
    let V : List ℕ = values_known c.load-control.new.seat.me.0.hold in
    let known : V ≡ t.0 = ap (λ (m : Seated). values_known m.0.hold) t.1 in
    let len : length V ≡ c.load-control.result / 2 = ap length known ∙ t.2 in
    let i = c.loop-chunks.invariant in
    let same : length (values_known c.loop-chunks.seat.me.0.hold) ≡ length V = ap (λ (m : Seated). length (values_known m.0.hold)) i.me in
    let room = t.3 in
    let len' = t.2 in
    let p = c.requires.home.1 in
    let many = i.chunks in
    let end = c.min-end.ensures in
    (omega arith, omega arith, omega arith)

pub settled_chunk-requires-clause-room : goal.settled_chunk-requires-clause-room
settled_chunk-requires-clause-room g c =
    let t = c.load-control.ensures.2 in
    let V : List ℕ = values_known c.load-control.new.seat.me.0.hold in
    let known : V ≡ t.0 = ap (λ (m : Seated). values_known m.0.hold) t.1 in
    let len : length V ≡ c.load-control.result / 2 = ap length known ∙ t.2 in
    let i = c.loop-chunks.invariant in
    let count = count_of g.T.Sample.value V c.loop-chunks.chunks c.loop-chunks.values.items i.items in
    let n : ℕ = c.loop-chunks.chunks - 1 in
    let is : c.loop-chunks.chunks ≡ suc n = omega arith in
    let many = i.chunks in
    let at_most : 64 * n ≤ length V = omega arith in
    let end : c.min-end.result ≡ min (length V) (64 * n + 64) = c.min-end.ensures ∙ ap (λ (k : ℕ). min k (64 * n + 64)) (sym len) in
    let more = chunk_length V n c.loop-chunks.chunks is in
    let whole : length (chunk n V) ≡ c.min-end.result - 64 * n = ap length (sym (chunk_cut V n c.min-end.result end at_most)) ∙ cut_length V n c.min-end.result end in
    let room = t.3 in
    let len' = t.2 in
    let p = c.requires.home.1 in
    let cap = i.room in
    let fits = c.requires.room.1 in
    omega arith
  where
    cut_length : (vs : List ℕ) (n e : ℕ) → e ≡ min (length vs) (64 * n + 64) → length (take (e - 64 * n) (drop (64 * n) vs)) ≡ e - 64 * n
    cut_length vs n e is = let a = Rattle.std.proofs.Common.length-drop (64 * n) vs in let b = Rattle.std.proofs.Common.length-take (e - 64 * n) (drop (64 * n) vs) in omega arith
