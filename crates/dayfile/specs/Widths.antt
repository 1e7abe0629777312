-- How many bytes each part takes.
use Rattle.std.specs.Prelude.{◌≡◌, ℕ, ◌<◌, length, ℤ, refl}
use Rattle.std.proofs.Common.{lit<}
use Rattle.dayfile.specs.declared.record.Load.{Load}
use Rattle.dayfile.specs.declared.record.Owner.{Owner}
use Rattle.dayfile.specs.declared.record.RealTimeHour.{RealTimeHour}
use Rattle.dayfile.specs.declared.record.Flag.{Flag}
use Rattle.dayfile.specs.declared.record.Event.{Event}
use Rattle.dayfile.specs.Bytes.{digits}
use Rattle.dayfile.specs.Records.{byte_bytes, half_bytes, word_bytes, signed_bytes, flag_bytes, event_bytes, load_bytes, owner_bytes, hour_bytes}

pub byte_long : (n : ℕ) → length (byte_bytes n) ≡ 1
unfolding digits
byte_long n = refl

pub half_long : (n : ℕ) → length (half_bytes n) ≡ 2
unfolding digits
half_long n = refl

pub word_long : (n : ℕ) → length (word_bytes n) ≡ 4
unfolding digits
word_long n = refl

pub signed_long : (z : ℤ) → length (signed_bytes z) ≡ 4
unfolding digits
signed_long z = refl

pub flag_long : (f : Flag) → length (flag_bytes f) ≡ 1
unfolding digits
flag_long f = refl

pub event_long : (e : Event) → length (event_bytes e) ≡ 1
unfolding digits
event_long e = refl

pub load_long : (l : Load) → length (load_bytes l) ≡ 12
unfolding digits
load_long l = refl

pub owner_long : (o : Owner) → length (owner_bytes o) ≡ 6
unfolding digits
owner_long o = refl

pub hour_long : (h : RealTimeHour) → length (hour_bytes h) ≡ 12
unfolding digits
hour_long h = refl

pub one : 1 < 256
one = lit< tt

pub two : 2 < 256
two = lit< tt

pub four : 4 < 256
four = lit< tt

pub six : 6 < 256
six = lit< tt

pub twelve : 12 < 256
twelve = lit< tt
