-- The rule that the owners of a Resource break: the first slot that does, or the sum.
use Rattle.std.specs.Prelude.{ℕ, ◌+◌, ◌-◌, Bool, cond, not, ◌&&◌, ◌||◌, List, [], ◌∷◌, take, drop, Some, None, Option, ◌==◌, nat_le, nat_lt}
use Rattle.std.specs.Option.{option_or}
use Rattle.dayfile.specs.declared.record.Owner.{Owner}
use Rattle.dayfile.specs.Owners.{parts_of}
use Rattle.explanation.specs.declared.finding.OwnersRule.{OwnersRule}
use Rattle.explanation.specs.declared.finding.OwnersRule.TheVariants.{Rising, Below, Parts, Sum, Unused}

-- of slots in use, the first of them being slot i: places rise from `least` on and lie below `limit`, and parts are above 0
unfoldable pub used_rule : ℕ → ℕ → ℕ → List Owner → Option OwnersRule
used_rule i least limit [] = None
used_rule i least limit (o ∷ os) =
    cond (nat_lt o.place least) (Some (Rising i o.place (least - 1)))
    (cond (nat_le limit o.place) (Some (Below i o.place limit))
    (cond (o.parts == 0) (Some (Parts i)) (used_rule (i + 1) (o.place + 1) limit os)))

-- all parts add up to a million
abbrev pub sum_rule : List Owner → Option OwnersRule
sum_rule os = cond (parts_of os == 1000000) None (Some (Sum (parts_of os)))

-- a slot that is in use is not 0
abbrev pub in_use : Owner → Bool
in_use o = not (o.place == 0) || not (o.parts == 0)

-- slots that are not in use are 0, the first of them being slot i
unfoldable pub unused_rule : ℕ → List Owner → Option OwnersRule
unused_rule i [] = None
unused_rule i (o ∷ os) = cond (o.place == 0 && o.parts == 0) (unused_rule (i + 1) os) (Some (Unused i o.place o.parts))

-- THE RULE that owners break, the first `count` slots being in use
abbrev pub owners_rule : ℕ → ℕ → List Owner → Option OwnersRule
owners_rule limit count os = option_or (option_or (used_rule 1 0 limit (take count os)) (sum_rule (take count os))) (unused_rule (count + 1) (drop count os))
