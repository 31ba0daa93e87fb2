-- The two ways of an entry as one, for code that they share.
use Rattle.std.specs.Prelude.{Bool, true, false, cond, ℕ}
use Rattle.hashing.specs.declared.Parameters.{Parameters}
use Rattle.hashing.specs.declared.Growth.{Growth}
use Rattle.pages.specs.declared.position.Position.{Position}
use Rattle.placement.specs.Hash.{hash_of}
use Rattle.placement.specs.Rule.{Star}
use Rattle.placement.specs.File.{File}
use Rattle.reach.specs.Reach.{entry_end}
use Rattle.calls.specs.Answers.{Pool, After}
use Rattle.calls.specs.Shape.{stopped}
use Rattle.calls.specs.Calls.{place_for, unless_held, enter_to, enter_of, cascade_from, cascade_of}

-- an entry of a star that is not held, over its reach or `cascading` from the named page
abbrev pub entry_from : Bool → Parameters → Growth → File → Pool → ℕ → Star → After
entry_from cascading p g f pool page s =
    cond cascading
    (cascade_from p g f pool s (place_for p f page s.number) page)
    (enter_to p g f pool s (place_for p f page s.number) (entry_end (hash_of p g) p.pages f s))

abbrev pub entry_on : Bool → Parameters → Growth → File → Pool → ℕ → Star → After
entry_on cascading p g f pool page s = unless_held p g f pool page s (entry_from cascading p g f pool page s)

abbrev pub entered_by : Bool → Parameters → Growth → File → Pool → ℕ → ℕ → Position → After
entered_by cascading p g f pool caller k position = cond cascading (cascade_of p g f pool caller k position) (enter_of p g f pool caller k position)

-- an entry over its reach is stopped after n stores; one by a cascade is not
abbrev pub unless_cascading : Bool → Parameters → File → ℕ → After → After
unless_cascading true p f n after = after
unless_cascading false p f n after = stopped false p f n after
