-- A file as a list of blocks.
use Rattle.std.proofs.Common.{◌≡◌, ℕ, zero, suc, ◌+◌, ◌*◌, ◌/◌, ◌<◌, List, [], length, get_or, take, drop, ap, ◌∙◌, arith}
use Rattle.std.proofs.lemmas.List.{drop-drop}
use Rattle.std.specs.Simd.{first_chunks}
use Rattle.dayfile.specs.Files.{block, blocks}

-- piece k of a list that is cut into m pieces of n elements
chunk : {A : Type 0} (n m k : ℕ) (xs : List A) → k < m → get_or (first_chunks n m xs) k [] ≡ take n (drop (n * k) xs)
chunk n zero k xs h = absurd (omega arith)
chunk n (suc m) zero xs h = let e : 0 ≡ n * 0 = omega arith in ap (λ i. take n (drop i xs)) e
chunk n (suc m) (suc k) xs h =
    let e : n + n * k ≡ n * suc k = omega arith in
    chunk n m k (drop n xs) (omega arith) ∙ ap (take n) (drop-drop (n * k) n xs ∙ ap (λ i. drop i xs) e)

-- block k of a file that is cut into blocks
pub block_chunk : (f : List ℕ) (cs : List (List ℕ)) (k : ℕ) → cs ≡ first_chunks 512 (length f / 512) f → k < blocks f → get_or cs k [] ≡ block f k
block_chunk f cs k e h = ap (λ c. get_or c k []) e ∙ chunk 512 (length f / 512) k f h
