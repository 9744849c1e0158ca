-- A first run, as cases/run/rules/first has it.
use Rattle.std.specs.Prelude.{ℕ, List, ◌++◌, codes}

-- what is read
abbrev pub first_input : List ℕ
first_input =
    codes "book\nprefix app\nend\n" ++ (codes "describe counter hits count all hits\nregister counter hits host=a\n"
    ++ codes "increment 0 2\nincrement 0 3\nsnapshot 0\nsnapshot 0\n")

-- what is written
abbrev pub first_output : List ℕ
first_output =
    codes "described 1\nregistered 0 1\nupdated 1\nupdated 1\n"
    ++ (codes "snapshot 0 1\ncounter app.hits host=a unit count value 5 text all hits\n"
    ++ codes "snapshot 0 1\ncounter app.hits host=a unit count value 0 text all hits\n")
