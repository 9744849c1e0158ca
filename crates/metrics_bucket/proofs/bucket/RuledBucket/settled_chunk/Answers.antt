use Rattle.std.proofs.Common.{rules, ◌≡◌, ℕ, ◌+◌, ◌*◌, ◌<◌, length, sym, ap, ◌∙◌, subst, arith}
use Rattle.metrics_bucket.specs.declared.view.Hold.TheVariants.{Settling}
use Rattle.metrics_bucket.specs.BucketState.{place_index, blocks_of}
use Rattle.metrics_bucket.specs.Steps.{Seated, values_known}
use Rattle.metrics_bucket.proofs.Allowed.{recalls}
use Rattle.metrics_bucket.proofs.Blocks.{chunk_step}
use Rattle.metrics_bucket.proofs.bucket.RuledBucket.settled_chunk.Goals as goal

pub load-bits-requires : goal.load-bits-requires
load-bits-requires g c =
    let same = c.loop-at.invariant.1 in
    let i = c.self.invariant in
    let below = c.place_index-word.ensures.1 in
    let p : c.args.self.now.places ≡ c.self.inside.places = search rules in
    let words : c.deref.result.now.shared.table_id.words ≡ 2 + 2 * c.self.inside.places + 2 * blocks_of c.self.inside.places = search rules in
    (search rules, omega arith, recalls _ _ _ _ _ _ (subst (λ (m : Seated). 0 < m.0.weight) (sym same) c.requires.knows.0))

pub loop-at-preserved : goal.loop-at-preserved
loop-at-preserved g c =
    let i = c.loop-at.invariant in
    let l = c.load-bits.ensures.2 in
    let hold : c.loop-at.seat.me.0.hold ≡ Settling c.args.side (values_known c.args.seat.now.me.0.hold) = ap (λ (m : Seated). m.0.hold) i.1 ∙ c.requires.knows.2 in
    let p : c.args.self.now.places ≡ c.loop-at.seat.me.0.places = sym c.requires.home.1 ∙ ap (λ (m : Seated). m.0.places) (sym i.1) in
    let word : 2 + c.place_index-word.result ≡ 2 + place_index c.loop-at.seat.me.0.places c.args.side c.loop-at.at = ap (λ (n : ℕ). 2 + n) (c.place_index-word.ensures.0 ∙ ap (λ (n : ℕ). place_index n c.args.side c.loop-at.at) p) in
    let part = c.requires.part in
    let inside : c.loop-at.at < length (values_known c.args.seat.now.me.0.hold) = omega arith in
    let found = l.1 c.args.side c.loop-at.at (values_known c.args.seat.now.me.0.hold) hold word inside in
    let pushed = c.push_reserved.ensures.items in
    let value = c.of_word.ensures in (
      c.load-bits.ensures.0 ∙ i.0,
      l.0 ∙ i.1,
      chunk_step g.T.Sample.value (values_known c.args.seat.now.me.0.hold) c.args.start c.loop-at.at c.load-bits.result c.args.values.now.items c.loop-at.values.items c.push_reserved.new.self.items (search rules) inside i.2 found (search rules),
      search rules,
    )
