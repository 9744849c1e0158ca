use Rattle.tool_trees.proofs.Lines.{no_router}
use Rattle.tool_trees.proofs.words.router_line.Goals as goal

pub returns-in_default : goal.returns-in_default
returns-in_default c =
    let cut = c.split_before.ensures in
    no_router _ _ _ cut.whole cut.before cut.others (λ n rs lt are word others. c.in_default.ensures n lt word)

pub returns-in-None : goal.returns-in-None
returns-in-None c =
    let cut = c.split_before.ensures in
    let none = rw c.in-None.is at c.in_ok-routes.ensures in
    no_router _ _ _ cut.whole cut.before cut.others (λ n rs lt are word others. none rs are others)
