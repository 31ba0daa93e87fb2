-- Planned stars and the words that wait, with what their sources name. Assumes nothing.
use Rattle.std.specs.Prelude.{Bool, List, ℕ, ◌+◌, ◌*◌, ◌/◌, ◌%◌, ◌^◌, eqb}
unfoldable pub use Rattle.plan_transfer.specs.Sources.{named_item}
use Rattle.placement.specs.Rule.{Star, star_with}
use Rattle.page_separator.specs.Lists.{all}
use Rattle.page_separator.specs.Words.{pack, number_in, source_of}

-- a planned star with the position word and the owner that its source names
unfoldable pub renamed : List ℕ → List ℕ → ℕ → ℕ → Star → Star
renamed words owners newword newowner s =
    star_with s.number (named_item words newword s.payload.word) (named_item owners newowner s.payload.word)

-- every word's source names its number
unfoldable pub sourced : List ℕ → ℕ → List ℕ → Bool
sourced numbers newnumber l = all (λ w. eqb (named_item numbers newnumber (source_of w)) (number_in w)) l

-- a word of number 0 with the number that its source names
unfoldable pub numbered : List ℕ → ℕ → ℕ
numbered numbers w = w + named_item numbers 0 (source_of w) * 2 ^ 16

-- the word of a key's star, numbered so
unfoldable pub star_word : List ℕ → ℕ → ℕ
star_word numbers key = pack (key / 2 ^ 16) (named_item numbers 0 (key % 2 ^ 16)) (key % 2 ^ 16)
