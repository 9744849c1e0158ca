use Rattle.std.proofs.Common.{rules, ◌≡◌, ℕ, List, suc, ◌+◌, ◌-◌, ◌*◌, ◌/◌, inr, length, take, map, min, sym, ap, ◌∙◌, subst, arith}
use Rattle.std.specs.List.{FoldsTo}
use Rattle.metrics_bucket.specs.BucketState.{visits_of, values_in}
use Rattle.metrics_bucket.specs.Blocks.{newest_first, valued}
use Rattle.metrics_bucket.specs.declared.view.Visit.{Visit}
use Rattle.metrics_bucket.proofs.Blocks.{chunk, chunks_from, chunks_newest, chunk_cut}
use Rattle.metrics_bucket.proofs.WalkCode.{length_values, length_walking, walks_join, still_unseen, same_from, calls_more}
use Rattle.metrics_bucket.proofs.bucket.RuledBucket.walk_side.Goals as goal

pub whole_as_slice-walk_block : goal.whole_as_slice-walk_block
whole_as_slice-walk_block g c = g.met.T.Sample.chunk_fits

pub shared_whole_as_front-see : goal.shared_whole_as_front-see
shared_whole_as_front-see g c = let e = c.min-end.ensures in (omega arith, g.met.T.Sample.chunk_fits)

pub walk_block-requires-clause-visits : goal.walk_block-requires-clause-visits
walk_block-requires-clause-visits g c i a b =
    let k = c.loop-chunks.invariant.walks in
    let n : 64 * (c.loop-chunks.chunks - 1) + 64 ≡ 64 * c.loop-chunks.chunks = omega arith in
    still_unseen g.W.Walker.kind c.args.seat.now.me c.loop-chunks.seat.me c.args.side (64 * c.loop-chunks.chunks) c.args.given c.min-end.result i k c.requires.hold.2 (c.min-end.ensures ∙ ap (min c.args.given) n) b

pub loop-chunks-preserved : goal.loop-chunks-preserved
loop-chunks-preserved g c =
    let i = c.loop-chunks.invariant in
    let k = c.walk_block.ensures in
    let n : ℕ = c.loop-chunks.chunks - 1 in
    let b : ℕ = 64 * c.loop-chunks.chunks in
    let is : c.loop-chunks.chunks ≡ suc n = omega arith in
    let at : b ≡ 64 * n + 64 = omega arith in
    let cut : c.min-end.result ≡ min c.args.given b = c.min-end.ensures ∙ ap (min c.args.given) (sym at) in
    let visits : List Visit = visits_of c.walk_block.new.seat.me.0.hold in
    let long : length visits ≡ c.args.given = k.seat.1.long ∙ (i.walks.long ∙ length_walking g.W.Walker.kind c.args.seat.now.me c.args.side c.args.given c.requires.hold.2) in
    let many = i.chunks in
    let V : List ℕ = values_in visits in
    let size = length_values visits in
    let all : length V ≡ c.args.given = size ∙ long in
    let cut' : c.min-end.result ≡ min (length V) (64 * n + 64) = c.min-end.ensures ∙ ap (λ (z : ℕ). min z (64 * n + 64)) (sym all) in
    let shown : take (c.min-end.result - 64 * n) c.walk_block.new.room ≡ map g.T.Sample.value (chunk n V) = k.room ∙ ap (map g.T.Sample.value) (chunk_cut V n c.min-end.result cut' (omega arith)) in
    record {
      ready = c.see.ensures.ready;
      table = k.seat.0 ∙ i.table;
      chunks = omega arith;
      size = search rules;
      walks = walks_join g.W.Walker.kind c.args.seat.now.me c.loop-chunks.seat.me c.walk_block.new.seat.me c.args.side (64 * n) b c.min-end.result c.args.given i.walks k.seat.1 at cut;
      calls = calls_more g.V.Visitor.saw g.T.Sample.value (values_in (visits_of c.loop-chunks.seat.me.0.hold)) V n c.loop-chunks.chunks ((c.args.given + 63) / 64) c.args.visitor.now c.loop-chunks.visitor c.see.new.self
          (take (c.min-end.result - 64 * n) c.walk_block.new.room) is many
          (same_from visits (visits_of c.loop-chunks.seat.me.0.hold) b k.seat.1.long (λ j l. k.seat.1.others j (inr (omega arith)))) i.calls c.see.ensures.saw shown;
    }

pub returns-clause-calls : goal.returns-clause-calls
returns-clause-calls g c =
    let i = c.loop-chunks.invariant in
    let visits : List Visit = visits_of c.loop-chunks.seat.me.0.hold in
    let long : length (values_in visits) ≡ c.args.given = length_values visits ∙ (i.walks.long ∙ length_walking g.W.Walker.kind c.args.seat.now.me c.args.side c.args.given c.requires.hold.2) in
    let none : c.loop-chunks.chunks ≡ 0 = omega arith in
    let m : ℕ = (c.args.given + 63) / 64 in
    let all : m - c.loop-chunks.chunks ≡ (length (values_in visits) + 63) / 64 = omega arith in
    let same : valued g.T.Sample.value (chunks_from c.loop-chunks.chunks (m - c.loop-chunks.chunks) (values_in visits)) ≡ valued g.T.Sample.value (newest_first (values_in visits)) = (λ z. valued g.T.Sample.value (chunks_from (none z) (all z) (values_in visits))) ∙ ap (valued g.T.Sample.value) (chunks_newest (values_in visits)) in
    (subst (λ (l : List (List g.row.T.Denot)). FoldsTo g.V.Visitor.saw c.args.visitor.now l c.loop-chunks.visitor) same i.calls)
