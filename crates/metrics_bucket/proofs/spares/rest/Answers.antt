use Rattle.std.proofs.Common.{rules, ◌≡◌, [], ◌∷◌, ◌++◌, false, List, sym, subst, ap, ◌∙◌}
use Rattle.std.specs.List.{All}
use Rattle.std.proofs.lemmas.List.Elements.{All-push}
use Rattle.atomic_table.specs.Marked.{Post}
use Rattle.metrics_bucket.specs.declared.view.View.{View}
use Rattle.metrics_bucket.specs.Account.{Account, has_ticket}
use Rattle.metrics_bucket.specs.Pens.{account_of}
use Rattle.metrics_bucket.specs.Spares.{IsSpareOf, spare_account}
use Rattle.metrics_bucket.proofs.Pens.{free_hold}
use Rattle.metrics_bucket.proofs.SparePens.{rests, is_spare}
use Rattle.metrics_bucket.proofs.spares.rest.Goals as goal

pub give-requires-clause-mark : goal.give-requires-clause-mark
give-requires-clause-mark c =
    let m = c.new-post.ensures.mark in
    (m.0, λ n views holds at small. rests n _ _ views m.1 m.2 holds at)

pub returns-clause-ok : goal.returns-clause-ok
returns-clause-ok c =
    let p = c.pen.inside in
    let v = p.seat.me.0 in
    let e : account_of p ≡ spare_account c.args.pen.home = c.pen.view_is ∙ c.requires.spare in
    let free : has_ticket p.ticket ≡ false = ap (λ (a : Account). a.ticket) e in
    let one : IsSpareOf c.args.pen.home c.new-post.result.0 =
    is_spare c.args.pen.home p.seat.table_id v c.new-post.result.0 (ap (λ (a : Account). a.home.table) e) c.pen.invariant.some_word (ap (λ (a : Account). a.home.places) e) (ap (λ (a : Account). a.weight) e)
    (ap (λ (a : Account). a.pushed) e) (ap (λ (a : Account). a.taken) e) (ap (λ (a : Account). a.read) e) (c.pen.invariant.holds ∙ free_hold _ free) (ap (λ (a : Account). a.seen) e) (ap (λ (a : Account). a.looks) e) (ap (λ (a : Account). a.refused) e) c.new-post.ensures.perch.0 c.new-post.ensures.perch.1 in
    let is : c.push.new.self.items ≡ c.args.posts.now.items ++ c.new-post.result.0 ∷ [] = search rules in
    subst (λ (ps : List (Post View)). All (IsSpareOf c.args.pen.home) ps) (sym is) (All-push (IsSpareOf c.args.pen.home) c.args.posts.now.items c.new-post.result.0 c.requires.spares one)
