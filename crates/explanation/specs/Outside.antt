-- What a finding says is wrong: what was found is not what is allowed.
use Rattle.std.specs.Prelude.{◌≡◌, ℕ, ◌%◌, ◌<◌, ◌≤◌, ◌⊎◌, List, pos, neg_ℤ, ◌≤ℤ◌, Some, None, Option, ◌≢◌}
use Rattle.dayfile.specs.declared.fault.Fault.{Fault}
use Rattle.dayfile.specs.Keeping.{Between}
use Rattle.dayfile.specs.Rules.{Law, refusal, Broken}
use Rattle.explanation.specs.declared.finding.Finding.{Finding}
use Rattle.explanation.specs.declared.finding.Finding.TheVariants.{Length, Check, Kind, Field, Price, Unnamed, NumberOfResource, Rising, Owners, Counts, Other}
use Rattle.explanation.specs.declared.finding.OwnersRule.{OwnersRule}
use Rattle.explanation.specs.declared.finding.OwnersRule.TheVariants.{Below, Parts, Sum, Unused}
use Rattle.explanation.specs.declared.finding.OwnersRule.TheVariants.{Rising as NotRising}

-- the kinds that may stand right behind another, or first
abbrev pub Stands : Option ℕ → ℕ → Type 0
Stands None c = c ≡ 68
Stands (Some before) c = ((c ≡ 80) × ((before ≡ 68) ⊎ (before ≡ 80))) ⊎ ((c ≡ 71) ⊎ ((c ≡ 82) × (before ≡ 71)))

abbrev pub OutsideOwners : OwnersRule → Type 0
OutsideOwners (NotRising slot place last) = place ≤ last
OutsideOwners (Below slot place participants) = participants ≤ place
OutsideOwners (Parts slot) = Unit {0}
OutsideOwners (Sum parts) = parts ≡ 1000000 → ⊥
OutsideOwners (Unused slot place parts) = (place ≢ 0) ⊎ (parts ≢ 0)

abbrev pub Outside : Finding → Type 0
Outside (Length bytes) = (bytes ≡ 0) ⊎ ((bytes % 512 ≢ 0) ⊎ (65536 < bytes))
Outside (Check stated computed) = stated ≡ computed → ⊥
Outside (Kind found before) = Stands before found → ⊥
Outside (Field field found least most) = Between least most found → ⊥
Outside (Price field found most) = (neg_ℤ (pos most) ≤ℤ found) × (found ≤ℤ pos most) → ⊥
Outside (Unnamed byte found) = found ≡ 0 → ⊥
Outside (NumberOfResource found expected) = found ≡ expected → ⊥
Outside (Rising name found last) = found ≤ last
Outside (Owners rule) = OutsideOwners rule
Outside (Counts participants resources) = (participants.said ≢ participants.read) ⊎ (resources.said ≢ resources.read)
Outside Other = ⊥

-- A BROKEN RULE IS EXPLAINED: where the rule of a refusal is broken in a file, what was found is not what is allowed
abbrev pub Explains : List ℕ → Fault → Finding → Type 0
Explains f x r = (l : Law) → x ≡ refusal l → Broken f l → Outside r
