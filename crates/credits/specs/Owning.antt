-- An hour's cents divided over a Resource's owners.
use Rattle.std.specs.Prelude.{ℕ, ◌+◌, cond, List, [], ◌∷◌, map, take, sum_by, ◌==◌}
use Rattle.dayfile.specs.declared.record.Owner.{Owner}
use Rattle.dayfile.specs.declared.record.ResourceRecord.{ResourceRecord}
use Rattle.division.specs.Division.{divided}
use Rattle.credits.specs.declared.owner.OwnerShare.{OwnerShare}

-- the owners in use: their participants' places, and their parts of a million
abbrev pub owners_of : ResourceRecord → List Owner
owners_of g = take g.owner_count g.owners

abbrev pub owner_places : ResourceRecord → List ℕ
owner_places g = map (λ o. o.place) (owners_of g)

abbrev pub owner_parts : ResourceRecord → List ℕ
owner_parts g = map (λ o. o.parts) (owners_of g)

-- what place i gets of shares, of which each goes to its owner's place
unfoldable pub got : ℕ → List ℕ → List ℕ → ℕ
got i [] shares = 0
got i (place ∷ places) [] = 0
got i (place ∷ places) (share ∷ shares) = cond (place == i) share 0 + got i places shares

-- THE CENTS OF PLACE i out of cents that are divided over owners by their parts
unfoldable pub owned_cents : ℕ → List ℕ → List ℕ → ℕ → ℕ
owned_cents i places parts c = got i places (divided c parts)

-- an owner who holds no cents yet
abbrev pub of_owner : Owner → OwnerShare
of_owner o = record { place = o.place; parts = o.parts; cents = 0 }

-- what place i gets of the shares that records hold
abbrev pub booked : {S : Type 0} → (S → ℕ) → (S → ℕ) → ℕ → List S → ℕ
booked stands holds i records = sum_by (λ x. cond (stands x == i) (holds x) 0) records
