-- The theorem of document 01's table "Marked to be proved", "checked together, as one fact about the definitions over the whole table":
-- every row passes, computed by the checker from the definitions. Assumes nothing.
use lib.Dec.{T}
use lib.Count.{ones}
use lib.Ieee.{span, climb, size, odd, units, round, neg, sum, add, sub, mul, div, rem, lt, eq, le, ne, of_int, to_unsigned, to_signed, is_nan, of_fields, of_bits, to_bits}
use Rattle.ecma262.specs.Date.{days_in_year, day_from_year, year_from_time, month_of, date_of, days_before, make_day}
use Rattle.ecma262.specs.Texts.{iso_year, day_name, month_name, padded_year, year_sign, offset_sign}
use Rattle.float.specs.Rounding.{with_sign, is_negative, trunc_f, floor_f, abs_f, copysign_f, rem_euclid_f, to_integer_or_infinity, is_whole_within}
use Rattle.float.specs.Whole.{floor_z, trunc_z}
use Rattle.calendar.specs.Calendar.{day_f, time_within_day_f, days_in_year_f, day_from_year_f, time_from_year_f, wrap32, year_estimate_f, year_from_time_f, day_within_year_f, in_leap_year_f, month_from_time_f, date_from_time_f}
use Rattle.make.specs.Make.{year_of_month, month_of_year, month_start_f, day_of_month_f, make_day_f, make_date_f, time_clip_f}
use Rattle.little_endian.specs.Bytes.{little_endian, twos_complement}
use Rattle.zone.specs.Zone.{record_at, records, is_zone_list, accepts, decides, offset_at}
use Rattle.local.specs.Local.{asked_second, offset_of_instant, offset_of_local, offset_of_suffix, local_time, utc_time, asked_second_f, offset_seconds_f, local_time_f, utc_f}
use Rattle.timevalue.specs.TimeValue.{is_time, time_value_of}
use Rattle.field_record.specs.FieldRecord.{has_length, has_other_bit, place_of, field_at, field_or}
use Rattle.parser.specs.Reading.{after, give, choose, byte, digits_after, all_of, within, signed_year, read_year, read_day, read_date, decimals_of, read_decimals, read_second, read_time, read_offset_minute, read_offset, read_zone, ending, time_part, rest, read}
use Rattle.reader.specs.Denotes.{instant_of}
use Rattle.reader.specs.Outcome.{answer_at, read_outcome}
use Rattle.writer.specs.Outcome.{written}
use Rattle.writer.specs.Writer.{iso_outcome, utc_outcome, local_outcome}
use Rattle.rewrite.specs.Rewrite.{rewrite_outcome}
use Rattle.new_date.specs.Calls.{or_zero, absent, new_date, new_date_of, value_from}
use Rattle.fields.specs.Outcome.{start_of, set_outcome}
use Rattle.marked.specs.Table.{rows, right, all_right}

pub marked-rows : T (all_right rows)
unfolding all_right right ones floor_z span climb size odd units round neg sum add sub mul div rem lt eq le ne of_int to_unsigned to_signed is_nan of_fields of_bits to_bits days_in_year day_from_year year_from_time month_of date_of days_before make_day iso_year day_name month_name padded_year year_sign offset_sign with_sign is_negative trunc_f floor_f abs_f copysign_f rem_euclid_f to_integer_or_infinity trunc_z day_f time_within_day_f days_in_year_f day_from_year_f time_from_year_f wrap32 year_estimate_f year_from_time_f day_within_year_f in_leap_year_f month_from_time_f date_from_time_f year_of_month month_of_year month_start_f day_of_month_f make_day_f make_date_f time_clip_f little_endian twos_complement record_at records is_zone_list accepts decides offset_at asked_second offset_of_instant offset_of_local offset_of_suffix local_time utc_time asked_second_f offset_seconds_f local_time_f utc_f is_whole_within is_time time_value_of has_length has_other_bit place_of field_at field_or after give choose byte digits_after all_of within signed_year read_year read_day read_date decimals_of read_decimals read_second read_time read_offset_minute read_offset read_zone ending time_part rest read instant_of answer_at read_outcome written iso_outcome utc_outcome local_outcome rewrite_outcome or_zero absent new_date new_date_of value_from start_of set_outcome
marked-rows = tt
