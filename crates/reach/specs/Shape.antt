-- What the code is said by and no promise to a caller cites.
use Rattle.std.specs.Prelude.{List, ℕ, ◌-◌, ◌*◌, drop}
use Rattle.std.proofs.Math.Seq.{paste}
use Rattle.hashing.specs.declared.Geometry.{Geometry}
use Rattle.placement.specs.Shape.{homes_of}

-- the list hs with the homes of the numbers ns at the items of the pages from `from` up to the one before `stop`
abbrev pub homes_kept : Geometry → ℕ → ℕ → List ℕ → List ℕ → List ℕ
homes_kept g from stop ns hs =
    paste hs (from * g.parameters.places) (homes_of g.parameters g.growth (drop (from * g.parameters.places) ns))
    ((stop - from) * g.parameters.places)
