-- An absent field equals the value that it stands for, written in: the new date depends on the call's arguments alone. Assumes nothing.
use mathlib.Core.Path.{◌≡◌, ap}
use mathlib.Core.Bool.{Bool}
use mathlib.Core.List.{List}
use Prim.Native.Nat.{ℕ, ◌<◌}
use lib.Dec.{lit<}
use lib.Ieee.{Float}
use Rattle.zone.specs.Zone.{Record}
use Rattle.field_record.specs.FieldRecord.{field_or}
use Rattle.new_date.specs.Calls.{Call, build, set, bits_of, argument, new_date, new_date_of, value_out, value_from, WrittenIn}
use Rattle.new_date.specs.declared.Part.TheVariants.{Milliseconds, Seconds, Minutes, Hours, Date, Month, FullYear}

same-date : (call : Call) (t : Float) (a b : ℕ → Float) → ((bit : ℕ) → bit < bits_of call → a bit ≡ b bit) → new_date call t a ≡ new_date call t b
unfolding new_date
same-date build t a b h = rw (h 0 (lit< tt), h 1 (lit< tt), h 2 (lit< tt), h 3 (lit< tt), h 4 (lit< tt), h 5 (lit< tt), h 6 (lit< tt))
same-date (set Milliseconds) t a b h = rw (h 0 (lit< tt))
same-date (set Seconds) t a b h = rw (h 0 (lit< tt), h 1 (lit< tt))
same-date (set Minutes) t a b h = rw (h 0 (lit< tt), h 1 (lit< tt), h 2 (lit< tt))
same-date (set Hours) t a b h = rw (h 0 (lit< tt), h 1 (lit< tt), h 2 (lit< tt), h 3 (lit< tt))
same-date (set Date) t a b h = rw (h 0 (lit< tt))
same-date (set Month) t a b h = rw (h 0 (lit< tt), h 1 (lit< tt))
same-date (set FullYear) t a b h = rw (h 0 (lit< tt), h 1 (lit< tt), h 2 (lit< tt))

-- THE LAW: a record with a gap and the one where it is filled have one value
pub written-in : (call : Call) (local : Bool) (list : List Record) (t : Float) (gap full : List ℕ) → WrittenIn call t gap full → value_from call local list t gap ≡ value_from call local list t full
unfolding value_from new_date_of field_or
written-in call local list t gap full w = ap (value_out local list) (same-date call t (argument call t gap) (argument call t full) same)
  where
    same : (bit : ℕ) → bit < bits_of call → argument call t gap bit ≡ argument call t full bit
    same bit k = let h = w bit k in rw (h.0, h.1)
