use Rattle.std.proofs.Common.{rules, ◌≡◌, ℕ, ◌+◌, ◌/◌, ◌%◌, ◌<◌, ◌∙◌, ap, subst, sym, arith}
use Rattle.std.proofs.lemmas.Nat.{one_shl}
use Rattle.metrics_bucket.specs.BucketState.{place_index, blocks_of, pushing}
use Rattle.metrics_bucket.specs.Steps.{Seated}
use Rattle.metrics_bucket.proofs.Allowed.{puts, marks}
use Rattle.metrics_bucket.proofs.bucket.RuledBucket.fill.Goals as goal

pub store-requires : goal.store-requires
store-requires g c =
    let hold = c.requires.ticket.2 in
    let key : c.args.self.now.places ≡ c.deref.result.now.shared.key.0 = search rules in
    let e0 : c.place_index-place_index.result ≡ place_index c.args.self.now.places c.args.side c.args.at = c.place_index-place_index.ensures.0 in
    let e : 2 + c.place_index-place_index.result ≡ 2 + place_index c.deref.result.now.shared.key.0 c.args.side c.args.at = ap (λ (n : ℕ). 2 + n) (e0 ∙ ap (λ (n : ℕ). place_index n c.args.side c.args.at) key) in
    (search rules, search rules, puts _ _ _ _ _ _ _ c.args.side c.args.at c.requires.home.2 hold e)

pub fetch_add-requires : goal.fetch_add-requires
fetch_add-requires g c =
    let hold = c.requires.ticket.2 in
    let key : c.args.self.now.places ≡ c.deref-2.result.now.shared.key.0 = search rules in
    let now = c.store.ensures.2 c.args.side c.args.at hold in
    let e0 : c.marks_word-marks.result ≡ 2 + (c.args.self.now.places + c.args.self.now.places) + place_index (blocks_of c.args.self.now.places) c.args.side (c.args.at / 64) = c.marks_word-marks.ensures.0 in
    let e = e0 ∙ ap (λ (n : ℕ). 2 + (n + n) + place_index (blocks_of n) c.args.side (c.args.at / 64)) key in
    (search rules, search rules, marks _ _ _ _ _ _ _ c.args.side c.args.at c.to_word.result (subst (λ (m : Seated). 0 < m.0.weight) (sym now) c.requires.home.2) (ap (λ (m : Seated). m.0.hold) now) e (one_shl (c.args.at % 64) 64 (omega arith)))

pub returns-clause-pushed : goal.returns-clause-pushed
returns-clause-pushed g c =
    let now = c.store.ensures.2 c.args.side c.args.at c.requires.ticket.2 in
    let then = c.fetch_add.ensures.2 c.args.side c.args.at c.to_word.result (ap (λ (m : Seated). m.0.hold) now) in
    let word : c.to_word.result ≡ g.T.Sample.word c.args.value = c.to_word.ensures in
    then ∙ (ap (λ (m : Seated). (pushing m.0 c.args.at c.to_word.result, m.1)) now ∙ ap (λ (x : ℕ). (pushing c.args.seat.now.me.0 c.args.at x, c.args.seat.now.me.1)) word)
