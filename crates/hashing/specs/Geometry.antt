-- Group size, group count and page count: document 01, "The lent buffers"; the growth step: "The cut".
use Rattle.std.specs.Prelude.{Bool, true, false, ◌&&◌, ℕ, ◌+◌, ◌-◌, ◌*◌, ◌/◌, ◌%◌, ◌^◌, min, ltb, eqb}
use Rattle.hashing.specs.declared.Parameters.{Parameters}
use Rattle.hashing.specs.declared.Growth.{Growth}

-- the multiplier that a file's parameters name
abbrev pub multiplier_of : Parameters → ℕ
multiplier_of p = p.multiplier

-- n = n0 + (e mod n0), the pages of a group after e partial expansions
unfoldable pub size_at : Parameters → ℕ → ℕ
size_at p e = p.width + e % p.width

-- G = N·2^(e div n0), the groups after e partial expansions
unfoldable pub count_at_lem : Parameters → ℕ → ℕ
count_at_lem p e = p.groups * 2 ^ (e / p.width)

abbrev pub group_size_lem : Parameters → Growth → ℕ
group_size_lem p g = size_at p g.expansions

abbrev pub group_count_lem : Parameters → Growth → ℕ
group_count_lem p g = count_at_lem p g.expansions

-- n·G + x; pages from here on hold overflow only
unfoldable pub page_count : Parameters → Growth → ℕ
page_count p g = group_size_lem p g * group_count_lem p g + g.expanded

-- the highest address, n·G + x − 1
unfoldable pub highest : Parameters → Growth → ℕ
highest p g = page_count p g - 1

-- growth makes x + 1, or e + 1 and 0 where that equals G
unfoldable pub grown_by_lem : Bool → Growth → Growth
grown_by_lem true g = record { expansions = g.expansions + 1; expanded = 0 }
grown_by_lem false g = record { expansions = g.expansions; expanded = g.expanded + 1 }

unfoldable pub grown : Parameters → Growth → Growth
grown p g = grown_by_lem (eqb (g.expanded + 1) (group_count_lem p g)) g

-- a new file's growth state
abbrev pub ungrown : Growth
ungrown = record { expansions = 0; expanded = 0 }

unfoldable pub is_ungrown : Growth → Bool
is_ungrown g = eqb g.expansions 0 && eqb g.expanded 0

-- "takes (e, x) back to the state before the latest growth": x − 1, or where x is 0, e − 1 and its last group; document 02 (i)
unfoldable pub shrunk_by : Bool → Parameters → Growth → Growth
shrunk_by true p g = record { expansions = g.expansions - 1; expanded = count_at_lem p (g.expansions - 1) - 1 }
shrunk_by false p g = record { expansions = g.expansions; expanded = g.expanded - 1 }

unfoldable pub shrunk : Parameters → Growth → Growth
shrunk p g = shrunk_by (eqb g.expanded 0) p g

-- with t = G − 1 − g and w = t mod s: w·(G div s) + the smaller of w and G mod s + t div s
unfoldable pub swept : ℕ → ℕ → ℕ → ℕ
swept step count t = t % step * (count / step) + min (t % step) (count % step) + t / step

-- the rank of a group among G groups, by backward sweeps of step s
unfoldable pub rank : ℕ → ℕ → ℕ → ℕ
rank step count group = swept step count (count - 1 - group)

-- a page of the group that growth expands under (e, x): the group of rank x, whose pages are those below n·G with its number mod G
unfoldable pub expands : Parameters → Growth → ℕ → Bool
expands p g q = ltb q (group_size_lem p g * group_count_lem p g) && eqb (rank p.step (group_count_lem p g) (q % group_count_lem p g)) g.expanded
