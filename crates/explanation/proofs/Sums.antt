-- The sum over a block's bytes: a turn of the loop.
use Rattle.std.proofs.Common.{◌≡◌, ℕ, ◌+◌, ◌*◌, ◌<◌, List, length, get_or, drop}
use Rattle.std.proofs.lemmas.List.{at_drop_more}
use Rattle.dayfile.specs.Bytes.{weighed}

pub weighed_more : (bs : List ℕ) (i : ℕ) → i < length bs → weighed i (drop i bs) ≡ (i + 1) * get_or bs i 0 + weighed (i + 1) (drop (i + 1) bs)
unfolding weighed
weighed_more bs i h = at_drop_more (weighed i) bs i 0 h
