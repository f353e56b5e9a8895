-- What the lookup's inner functions keep, for their contracts, and names for the laws and for the contracts on lists; no outcome cites them.
-- Definitions only. Assumes nothing.
use Rattle.std.specs.Prelude.{◌≡◌, List, ◌⊎◌, ℕ, ◌/◌, ◌<◌, ◌≤◌, ℤ, length, ◌≤ℤ◌, ◌<ℤ◌}
use Rattle.zone.specs.declared.ZoneList.{ZoneList}
use Rattle.zone.specs.Zone.{Record, records, second_of}

-- So far as halving has found it: the record that decides at t lies from `low` to before `high`.
pub record Narrowed (bytes : List ℕ) (t : ℤ) (low high : ℕ) : Type 0 where
  pub apart : low < high
  pub within : high ≤ length bytes / 12
  pub started : (low ≡ 0) ⊎ (second_of (records bytes) low ≤ℤ t)
  pub after : (j : ℕ) → high ≤ j → j < length bytes / 12 → t <ℤ second_of (records bytes) j

-- n seconds are strictly rising
abbrev pub Rising : (ℕ → ℤ) → ℕ → Type 0
Rising s n = (i j : ℕ) → i < j → j < n → s i <ℤ s j

-- the records of a list that was accepted
abbrev pub records_of : ZoneList → List Record
records_of list = records list.bytes.now
