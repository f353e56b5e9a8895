-- What the writers' inner functions take and answer: a whole time, its fields for the printing functions, and a printing function's answer
-- as a reply. Definitions only. Assumes nothing.
use Rattle.std.specs.Prelude.{◌≡◌, ℕ, ℤ, Float, Option, Some, None, Result, Err}
use Rattle.ecma262.specs.Date.{fields_of, week_day}
use Rattle.ecma262.specs.Domain.{Shown}
use Rattle.float.specs.Whole.{IsWhole, trunc_z}
use Rattle.text.specs.Inner.{whole_of}
use Rattle.text.specs.declared.fields.DateFields.{DateFields}
use Rattle.answer.specs.Answer.{text_reply}
use Rattle.answer.specs.declared.Refusal.{Refusal}
use Rattle.answer.specs.declared.Refusal.TheVariants.{Output}
use Rattle.answer.specs.declared.Text.{Text}

-- a whole time, in the range or shifted from it by an offset
pub record IsShown (t : Float) : Type 0 where
  pub whole : IsWhole t (trunc_z t)
  pub shown : Shown (trunc_z t)

-- f has ECMA-262's fields of the time t
pub record FieldsAt (t : ℤ) (f : DateFields) : Type 0 where
  pub fields : whole_of f ≡ fields_of t
  pub weekday : f.weekday ≡ week_day t

-- the reply of a text printed for a time value, whose bits are given
abbrev pub replied : ℕ → Option ℕ → Result Text Refusal
replied value (Some n) = text_reply value n
replied value None = Err Output
