use Rattle.std.proofs.Common.{◌≡◌, ◌∙◌, ◌++◌, ◌∷◌, [], ◌+◌, All, sym, ap, subst, Some, length, arith}
use Rattle.std.proofs.lemmas.List.{length_push}
use Rattle.std.proofs.lemmas.List.Elements.{All-push}
use Rattle.prefix_match.specs.TriePatterns.{stored}
use Rattle.prefix_match.proofs.TrieAnswers.{stored_after}
use Rattle.metrics_exporter.specs.Prefixes.{IsEmpty, ArePlaces}
use Rattle.metrics_exporter.proofs.BoundsLemmas.{is-empty, places-more, Inserts, set-one, slice_get-end}
use Rattle.metrics_exporter.proofs.bounds.Bounds.set.Goals as goal

pub invariant_of-self : goal.invariant_of-self
invariant_of-self c =
    let b = c.args.self.now in
    let items : c.reserve.new.self.items ≡ b.chosen.items = c.reserve.ensures.items in
    record {
      unused = b.unused;
      all_unused = subst (All IsEmpty) (sym items) b.all_unused;
      exact_unused = b.exact_unused;
      units_unused = b.units_unused;
      within = subst (ArePlaces b.prefixes.pairs) (sym (ap length items)) b.within;
    }

pub invariant_of-self-in-Ok : goal.invariant_of-self-in-Ok
invariant_of-self-in-Ok c =
    let b = c.args.self.now in
    let one = c.in_ok-empty.empty in
    let n = c.len-at.result in
    let kept : c.reserve.new.self.items ≡ b.chosen.items = c.in_ok-reserve.ensures.items in
    let items : c.push_reserved.new.self.items ≡ b.chosen.items ++ one ∷ [] = c.push_reserved.ensures.items ∙ ap (λ xs. xs ++ one ∷ []) kept in
    let count : n ≡ length b.chosen.items = omega (arith, c.len-at.ensures, ap length kept, c.reserve.new.self.ok.0) in
    let inserts : Inserts b.prefixes.pairs c.insert.new.self.pairs c.as_bytes.result.now n = stored_after _ _ _ n c.in-Ok.ensures.value c.in-Ok.ensures.others in
    let below : ArePlaces b.prefixes.pairs n = subst (ArePlaces b.prefixes.pairs) (sym count) b.within in
    let more : n + 1 ≡ length c.push_reserved.new.self.items = omega (arith, count, ap length items, length_push b.chosen.items one) in
    record {
      unused = b.unused;
      all_unused = subst (All IsEmpty) (sym items) (All-push IsEmpty b.chosen.items one b.all_unused (is-empty one c.args.bounds.now c.in_ok-empty.ensures.ok));
      exact_unused = b.exact_unused;
      units_unused = b.units_unused;
      within = subst (ArePlaces c.insert.new.self.pairs) {x = n + 1} {y = length c.push_reserved.new.self.items} more (places-more b.prefixes.pairs c.insert.new.self.pairs c.as_bytes.result.now n below inserts);
    }

pub returns-in-Ok-clause-ok : goal.returns-in-Ok-clause-ok
returns-in-Ok-clause-ok c =
    let b = c.args.self.now in
    let one = c.in_ok-empty.empty in
    let kept : c.reserve.new.self.items ≡ b.chosen.items = c.in_ok-reserve.ensures.items in
    let items : c.push_reserved.new.self.items ≡ b.chosen.items ++ one ∷ [] = c.push_reserved.ensures.items ∙ ap (λ xs. xs ++ one ∷ []) kept in
    let count : c.len-at.result ≡ length b.chosen.items = omega (arith, c.len-at.ensures, ap length kept, c.reserve.new.self.ok.0) in
    let found : stored c.insert.new.self.pairs c.args.prefix.now ≡ Some (length b.chosen.items) =
    ap (stored c.insert.new.self.pairs) (sym c.as_bytes.ensures.value) ∙ c.in-Ok.ensures.value ∙ ap Some count in
    rw found (rw items (rw (slice_get-end b.chosen.items one) c.in_ok-empty.ensures.ok))

pub returns-in-Ok-clause-sets : goal.returns-in-Ok-clause-sets
returns-in-Ok-clause-sets c =
    let b = c.args.self.now in
    let one = c.in_ok-empty.empty in
    let kept : c.reserve.new.self.items ≡ b.chosen.items = c.in_ok-reserve.ensures.items in
    let items : c.push_reserved.new.self.items ≡ b.chosen.items ++ one ∷ [] = c.push_reserved.ensures.items ∙ ap (λ xs. xs ++ one ∷ []) kept in
    let count : c.len-at.result ≡ length b.chosen.items = omega (arith, c.len-at.ensures, ap length kept, c.reserve.new.self.ok.0) in
    let at-count : Inserts b.prefixes.pairs c.insert.new.self.pairs c.as_bytes.result.now (length b.chosen.items) = stored_after _ _ _ _ (c.in-Ok.ensures.value ∙ ap Some count) c.in-Ok.ensures.others in
    let inserts : Inserts b.prefixes.pairs c.insert.new.self.pairs c.args.prefix.now (length b.chosen.items) =
    subst (λ pattern. Inserts b.prefixes.pairs c.insert.new.self.pairs pattern (length b.chosen.items)) c.as_bytes.ensures.value at-count in
    set-one b.default b.prefixes.pairs b.chosen.items c.insert.new.self.pairs c.push_reserved.new.self.items one c.args.bounds.now c.args.prefix.now items c.in_ok-empty.ensures.ok b.within inserts
