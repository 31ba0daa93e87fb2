-- The file that an accepted make leaves is the empty model's.
use mathlib.Core.Path.{◌≡◌, refl, sym}
use mathlib.Core.Bool.{Bool, true, false, true≢false}
use mathlib.Core.List.{[]}
use Prim.Native.Nat.{ℕ, zero, suc, ◌*◌}
use native.Mathlib.Nat.{suc-mul, zero-mul, sub-zero, add_comm}
use native.Mathlib.Omega.{arith}
use lib.ListN.{replicate, replicate-append-replicate}
use Rattle.buffers.specs.Lists.{padded}
use Rattle.hashing.specs.declared.Parameters.{Parameters}
use Rattle.hashing.specs.Geometry.{ungrown}
use Rattle.hashing.specs.Limits.{valid_parameters}
use Rattle.hashing.proofs.Homes.{start-valid}
use Rattle.placement.proofs.Probing.{bounded-real}
use Rattle.placement.specs.Rule.{Star, Hash, Contents, filter, passing, contents_of, staying, onward, pages, left, separators}
use Rattle.placement.specs.File.{File, column, laid, file_of}
use Rattle.placement.specs.Hash.{hash_of}
use Rattle.placement.proofs.Separator.{Bounded, probing-top}
use Rattle.calls.specs.Answers.{Pool, spotted}
use Rattle.calls.specs.Calls.{file_fits_lem, unless, or_else, guarded, empty_file_lem, make_of}
use Rattle.calls.specs.Records.{valid_steps}
use Rattle.histories.specs.Model.{empty_model, entry_stars, model_file}
use Rattle.histories.specs.Run.{initial}
use Rattle.histories.proofs.Histories.{Agrees}

-- Of no stars nothing is left, and every page is empty under the top.
pub left-none : (H : Hash) (p n : ℕ) → left H p n [] ≡ []
unfolding left onward passing filter
left-none H p zero = refl
left-none H p (suc n) = left-none H (suc p) n

abbrev vacant : Hash → Contents
vacant H = record { separator = H.top; stars = [] }

pages-none : (H : Hash) → Bounded H → (p n : ℕ) → pages H p n [] ≡ replicate n (vacant H)
unfolding pages contents_of onward passing staying filter
pages-none H b p zero = refl
pages-none H b p (suc n) = rw (probing-top H b p [] (omega arith), pages-none H b (suc p) n)

separators-none : (n : ℕ) (c : Contents) → separators (replicate n c) ≡ replicate n c.separator
unfolding separators
separators-none zero c = refl
separators-none (suc n) c = rw (separators-none n c)

column-none : (b : ℕ) (g : Star → ℕ) (n top : ℕ) → column b g (replicate n (record { separator = top; stars = [] })) ≡ replicate (n * b) 0
unfolding column padded
column-none b g zero top = rw (zero-mul b)
column-none b g (suc n) top = rw (column-none b g n top, sub-zero b, replicate-append-replicate {A = ℕ} b (n * b) 0, suc-mul n b, add_comm (n * b) b)

pub laid_none : (b : ℕ) (H : Hash) → Bounded H → (n : ℕ)
    → laid b H n [] ≡ record { separators = replicate n H.top; numbers = replicate (n * b) 0; words = replicate (n * b) 0; owners = replicate (n * b) 0 }
unfolding laid file_of
laid_none b H bounds n =
    rw (pages-none H bounds 0 n, separators-none n (vacant H), column-none b (λ (s : Star). s.number) n H.top, column-none b (λ (s : Star). s.payload.word) n H.top, column-none b (λ (s : Star). s.payload.owner) n H.top)

empty-is : (p : Parameters) → valid_parameters p ≡ true → empty_file_lem p ≡ model_file p (empty_model ungrown)
unfolding empty_file_lem model_file entry_stars hash_of
empty-is p v = sym (laid_none p.places (hash_of p ungrown) (bounded-real p ungrown v) p.pages)

-- What make accepts.
pub record Accepted (p : Parameters) (f : File) : Type 0 where
  pub parameters : valid_parameters p ≡ true
  pub lengths : file_fits_lem p f ≡ true

pub make_accepts : (p : Parameters) (f : File) (pool : Pool) → (make_of p f pool).answer.refusal ≡ 0 → Accepted p f
unfolding make_of spotted
make_accepts p f pool e = go (valid_parameters p) (file_fits_lem p f) refl refl e
  where
    go : (s t : Bool) → valid_parameters p ≡ s → file_fits_lem p f ≡ t
        → (guarded ungrown f pool (or_else (unless s 1) (unless t 2)) (record { answer = spotted 0 0 0; growth = ungrown; file = empty_file_lem p; pool = pool })).answer.refusal ≡ 0
        → Accepted p f
    go true true v l e = record { parameters = v; lengths = l }
    go true false v l e = absurd (omega arith)
    go false true v l e = absurd (omega arith)
    go false false v l e = absurd (omega arith)

pub initial-agrees : (p : Parameters) (f second : File) (pool : Pool) → (make_of p f pool).answer.refusal ≡ 0 → Agrees (initial p f second pool)
unfolding initial make_of entry_stars valid_steps
initial-agrees p f second pool e =
    let a = make_accepts p f pool e in
    rw (a.parameters, a.lengths)
    (record {
      growth = refl;
      file = empty-is p a.parameters;
      fitting = record { parameters = a.parameters; growth = start-valid p a.parameters; ordered = tt; fits = left-none (hash_of p ungrown) 0 p.pages };
      steps = refl;
      unfinished = λ z. absurd (true≢false (sym z));
    })
