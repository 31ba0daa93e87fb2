-- What applying a plan leaves: the planned pages with each source replaced by the star that it names.
use mathlib.Core.Path.{◌≡◌, refl, sym, ap, ◌∙◌}
use mathlib.Core.Bool.{Bool, true, false, cond, not, ◌&&◌, false≢true}
use mathlib.Core.List.{List, [], ◌∷◌, ◌++◌, map, map-append}
use Prim.Native.Nat.{ℕ, zero, suc, ◌+◌, ◌-◌, ◌*◌}
use native.Mathlib.Omega.{arith}
use lib.Dec.{leb, eqb}
use lib.ListN.{length, take, drop, replicate, length-map}
use borrow.Author.Tests.{eqb-true}
use Rattle.pages.specs.Shape.{stretch}
use Rattle.buffers.specs.Lists.{written, padded}
use Rattle.hashing.specs.declared.Parameters.{Parameters}
use Rattle.placement.specs.Rule.{Star, Contents, separators}
use Rattle.placement.specs.File.{File, every, column, file_of, replaced}
use Rattle.placement.specs.Hash.{lent}
use Rattle.placement.proofs.Mapping.{Keeps, mapped}
use Rattle.page_separator.specs.Lists.{selected, all}
use Rattle.page_separator.specs.Words.{low_of, number_in, source_of}
use Rattle.page_plan.specs.Gather.{group, group_of}
use Rattle.page_separator.specs.Probes.{staying_words, passing_words, under, words_separator}
use Rattle.page_plan.specs.Settle.{insert_low, pour_low, slots_of}
use Rattle.page_separator.proofs.Lists.{all_head, all_tail, all_append, all_filter, all-mono}
use Rattle.page_plan.specs.Sources.{named_item, renamed, sourced}
use Rattle.page_plan.specs.Plans.{star_of, waits, settled, carried_on_lem, plans}
use Rattle.page_plan.proofs.Pouring.{pour-cons}
use Rattle.page_plan.proofs.RuleOverWords.{number-low}
use Rattle.placement.proofs.Change.{separators-map}

-- every star of these pages has the number that its source names
abbrev pub Sourced : List ℕ → ℕ → List Contents → Type 0
Sourced ns new [] = Unit {0}
Sourced ns new (c ∷ cs) = (every (λ (s : Star). eqb (named_item ns new s.payload.word) s.number) c.stars ≡ true) × Sourced ns new cs

every-head : (q : Star → Bool) (s : Star) (l : List Star) → every q (s ∷ l) ≡ true → (q s ≡ true) × (every q l ≡ true)
unfolding every
every-head q s l = go (q s)
  where
    go : (t : Bool) → t && every q l ≡ true → (t ≡ true) × (every q l ≡ true)
    go true e = (refl, e)
    go false e = absurd (false≢true e)

map-zeros : (f : ℕ → ℕ) (n : ℕ) → f 0 ≡ 0 → map f (replicate n 0) ≡ replicate n 0
map-zeros f zero e = refl
map-zeros f (suc n) e = rw (e, map-zeros f n e)

-- a map of the items of a page
map-padded : (b : ℕ) (f : ℕ → ℕ) (x y : List ℕ) → f 0 ≡ 0 → map f x ≡ y → map f (padded b x) ≡ padded b y
unfolding padded
map-padded b f x y e m =
    map-append f x (replicate (b - length x) 0)
    ∙ ap (λ (r : List ℕ). r ++ map f (replicate (b - length x) 0)) m
    ∙ ap (λ (r : List ℕ). y ++ r) (map-zeros f (b - length x) e)
    ∙ ap (λ (k : ℕ). y ++ replicate (b - k) 0) (sym (length-map x f) ∙ ap length m)

named-zero : (l : List ℕ) (new : ℕ) → named_item l new 0 ≡ 0
unfolding named_item
named-zero l new = refl

-- what the sources of these pages name in l is the field h of the stars that g makes of them
abbrev Names : List ℕ → ℕ → (Star → Star) → (Star → ℕ) → List Contents → Type 0
Names l new g h [] = Unit {0}
Names l new g h (c ∷ cs) = (map (named_item l new) (map (λ (s : Star). s.payload.word) c.stars) ≡ map h (map g c.stars)) × Names l new g h cs

names_all : (l : List ℕ) (new : ℕ) (g : Star → Star) (h : Star → ℕ) → ((s : Star) → named_item l new s.payload.word ≡ h (g s)) → (cs : List Contents) → Names l new g h cs
names_all l new g h e [] = tt
names_all l new g h e (c ∷ cs) = (go c.stars, names_all l new g h e cs)
  where
    go : (t : List Star) → map (named_item l new) (map (λ (s : Star). s.payload.word) t) ≡ map h (map g t)
    go [] = refl
    go (s ∷ t) = rw (e s, go t)

numbers_of : (ns : List ℕ) (new : ℕ) (g : Star → Star) → Keeps g → (l : List Star) → every (λ (s : Star). eqb (named_item ns new s.payload.word) s.number) l ≡ true
    → map (named_item ns new) (map (λ (s : Star). s.payload.word) l) ≡ map (λ (s : Star). s.number) (map g l)
numbers_of ns new g keeps [] e = refl
numbers_of ns new g keeps (s ∷ l) e =
    let t = every-head (λ (x : Star). eqb (named_item ns new x.payload.word) x.number) s l e in
    ap (λ (n : ℕ). n ∷ map (named_item ns new) (map (λ (x : Star). x.payload.word) l)) (eqb-true (named_item ns new s.payload.word) s.number t.0 ∙ sym (keeps s))
    ∙ ap (λ (r : List ℕ). (g s).number ∷ r) (numbers_of ns new g keeps l t.1)

names_sourced : (ns : List ℕ) (new : ℕ) (g : Star → Star) → Keeps g → (cs : List Contents) → Sourced ns new cs → Names ns new g (λ (s : Star). s.number) cs
names_sourced ns new g keeps [] e = tt
names_sourced ns new g keeps (c ∷ cs) e = (numbers_of ns new g keeps c.stars e.0, names_sourced ns new g keeps cs e.1)

pub renamed_keeps : (ws os : List ℕ) (newword newowner : ℕ) → Keeps (renamed ws os newword newowner)
unfolding renamed
renamed_keeps ws os newword newowner s = refl

-- numbers, words or owners of the pages by their sources
named-column : (b : ℕ) (l : List ℕ) (new : ℕ) (g : Star → Star) (h : Star → ℕ) (cs : List Contents) → Names l new g h cs
    → map (named_item l new) (column b (λ (s : Star). s.payload.word) cs) ≡ column b h (map (mapped g) cs)
unfolding column
named-column b l new g h [] e = refl
named-column b l new g h (c ∷ cs) e =
    map-append (named_item l new) (padded b (map (λ (s : Star). s.payload.word) c.stars)) (column b (λ (s : Star). s.payload.word) cs)
    ∙ ap (λ (r : List ℕ). r ++ map (named_item l new) (column b (λ (s : Star). s.payload.word) cs))
    (map-padded b (named_item l new) (map (λ (s : Star). s.payload.word) c.stars) (map h (map g c.stars)) (named-zero l new) e.0)
    ∙ ap (λ (r : List ℕ). padded b (map h (map g c.stars)) ++ r) (named-column b l new g h cs e.1)

-- the lists that `apply` leaves
unfoldable pub applied : ℕ → ℕ → ℕ → ℕ → ℕ → ℕ → List ℕ → List ℕ → File → File
applied places lo count newnumber newword newowner pool planned f =
    record {
      separators = written lo (take count (drop lo planned)) f.separators;
      numbers = written (lo * places) (map (named_item f.numbers newnumber) (stretch places lo count pool)) f.numbers;
      words = written (lo * places) (map (named_item f.words newword) (stretch places lo count pool)) f.words;
      owners = written (lo * places) (map (named_item f.owners newowner) (stretch places lo count pool)) f.owners;
    }

-- applying the plan of the pages cs replaces them
pub applied-is : (places lo count newnumber newword newowner : ℕ) (pool planned : List ℕ) (f : File) (cs : List Contents)
    → stretch places lo count pool ≡ column places (λ (s : Star). s.payload.word) cs → take count (drop lo planned) ≡ separators cs → Sourced f.numbers newnumber cs
    → applied places lo count newnumber newword newowner pool planned f ≡ replaced places f lo (map (mapped (renamed f.words f.owners newword newowner)) cs)
unfolding applied replaced
applied-is places lo count newnumber newword newowner pool planned f cs ep es so =
    rw (
      es,
      ep,
      separators-map g cs,
      named-column places f.numbers newnumber g (λ (s : Star). s.number) cs (names_sourced f.numbers newnumber g (renamed_keeps f.words f.owners newword newowner) cs so),
      named-column places f.words newword g (λ (s : Star). s.payload.word) cs (names_all f.words newword g (λ (s : Star). s.payload.word) (λ (s : Star). unfold renamed in refl) cs),
      named-column places f.owners newowner g (λ (s : Star). s.payload.owner) cs (names_all f.owners newowner g (λ (s : Star). s.payload.owner) (λ (s : Star). unfold renamed in refl) cs),
    )
  where
    g : Star → Star
    g = renamed f.words f.owners newword newowner

-- what the sources of the pages cs name, with their separators, is these pages as a whole file
pub fetched-is : (places : ℕ) (sources planned : List ℕ) (f : File) (cs : List Contents)
    → sources ≡ column places (λ (s : Star). s.payload.word) cs → planned ≡ separators cs → Sourced f.numbers 0 cs
    → lent planned (map (named_item f.numbers 0) sources) (map (named_item f.words 0) sources) (map (named_item f.owners 0) sources)
    ≡ file_of places (map (mapped (renamed f.words f.owners 0 0)) cs)
unfolding file_of
fetched-is places sources planned f cs ep es so =
    rw (
      es,
      ep,
      separators-map g cs,
      named-column places f.numbers 0 g (λ (s : Star). s.number) cs (names_sourced f.numbers 0 g (renamed_keeps f.words f.owners 0 0) cs so),
      named-column places f.words 0 g (λ (s : Star). s.payload.word) cs (names_all f.words 0 g (λ (s : Star). s.payload.word) (λ (s : Star). unfold renamed in refl) cs),
      named-column places f.owners 0 g (λ (s : Star). s.payload.owner) cs (names_all f.owners 0 g (λ (s : Star). s.payload.owner) (λ (s : Star). unfold renamed in refl) cs),
    )
  where
    g : Star → Star
    g = renamed f.words f.owners 0 0

every-insert : (q : Star → Bool) (x : ℕ) (l : List ℕ) → q (star_of x) ≡ true → every q (map star_of l) ≡ true → every q (map star_of (insert_low x l)) ≡ true
unfolding every insert_low
every-insert q x [] e h = rw e
every-insert q x (y ∷ l) e h = go (leb x y) (every-head q (star_of y) (map star_of l) h) (every-insert q x l e)
  where
    go : (t : Bool) → (q (star_of y) ≡ true) × (every q (map star_of l) ≡ true) → (every q (map star_of l) ≡ true → every q (map star_of (insert_low x l)) ≡ true)
        → every q (map star_of (cond t (x ∷ y ∷ l) (y ∷ insert_low x l))) ≡ true
    go true t ih = rw (e, t.0, t.1)
    go false t ih = rw (t.0, ih t.1)

pub every-waits : (q : Star → Bool) (l : List ℕ) → all (λ w. q (star_of (low_of w))) l ≡ true → every q (waits l) ≡ true
unfolding waits slots_of
every-waits q [] e = unfold every pour_low in refl
every-waits q (x ∷ l) e =
    ap (λ (s : List ℕ). every q (map star_of s)) (pour-cons (low_of x) (map low_of l) [])
    ∙ every-insert q (low_of x) (pour_low (map low_of l) []) (all_head (λ w. q (star_of (low_of w))) x l e) (every-waits q l (all_tail (λ w. q (star_of (low_of w))) x l e))

word_low : (w : ℕ) → (star_of (low_of w)).payload.word ≡ source_of w
unfolding star_of low_of source_of
word_low w = omega arith

pub sourced-waits : (ns : List ℕ) (new : ℕ) (l : List ℕ) → sourced ns new l ≡ true → every (λ (s : Star). eqb (named_item ns new s.payload.word) s.number) (waits l) ≡ true
unfolding sourced
sourced-waits ns new l e =
    every-waits (λ (s : Star). eqb (named_item ns new s.payload.word) s.number) l
    (all-mono (λ w. eqb (named_item ns new (source_of w)) (number_in w)) (λ w. eqb (named_item ns new (star_of (low_of w)).payload.word) (star_of (low_of w)).number) l
    (λ w t. rw (word_low w, number-low w) t) e)

pub sourced-filter : (ns : List ℕ) (new : ℕ) (q : ℕ → Bool) (l : List ℕ) → sourced ns new l ≡ true → sourced ns new (selected q l) ≡ true
unfolding sourced
sourced-filter ns new q l = all_filter (λ w. eqb (named_item ns new (source_of w)) (number_in w)) q l

pub sourced-append : (ns : List ℕ) (new : ℕ) (a b : List ℕ) → sourced ns new a ≡ true → sourced ns new b ≡ true → sourced ns new (a ++ b) ≡ true
unfolding sourced
sourced-append ns new a b = all_append (λ w. eqb (named_item ns new (source_of w)) (number_in w)) a b

pub plans-sourced : (ns : List ℕ) (new : ℕ) (q : Parameters) (lo v n : ℕ) (w l : List ℕ) → sourced ns new w ≡ true → sourced ns new l ≡ true
    → Sourced ns new (plans q lo v n w l)
unfolding plans settled staying_words carried_on_lem passing_words
plans-sourced ns new q lo v zero w l hw hl = tt
plans-sourced ns new q lo v (suc n) w l hw hl =
    let p : ℕ = lo + v in
    let here : List ℕ = w ++ group lo v l in
    let hh : sourced ns new here ≡ true = sourced-append ns new w (group lo v l) hw (sourced-filter ns new (λ x. eqb (group_of lo x) v) l hl) in
    let s : ℕ = words_separator q p here in (
      sourced-waits ns new (staying_words q p s here) (sourced-filter ns new (under q p s) here hh),
      plans-sourced ns new q lo (suc v) n (carried_on_lem q p here) l
          (sourced-filter ns new (λ x. not (under q p s x)) here hh) hl,
    )
