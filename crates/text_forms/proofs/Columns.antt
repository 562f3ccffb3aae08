-- The rows of specs/BadLines.antt, by computing. Assumes nothing.
use mathlib.Core.Path.{◌≡◌, refl}
use mathlib.Core.List.{map}
use Rattle.text_fields.specs.Fields.{run_to, end_from, field_end, field_at, next_start}
use Rattle.text_numbers.specs.Numbers.{digit_of, digits_from, after_zero, number_in, dec_within, dec}
use Rattle.step_kinds.specs.Kinds.{shape_of}
use Rattle.text_keywords.specs.Keywords.{text_of, keywords, same, common, larger, longest, lookup, keyword_of}
use Rattle.text_records.specs.Records.{placed, number_at, with_second, with_first, pair_at, last_pair, of_pair, of_list}
use Rattle.text_records.specs.Records.{of_one, after_kind, after_word, record_of}
use Rattle.text_lists.specs.Lists.{past_entry, listed_from, list_of}
use Rattle.text_writers.specs.Texts.{fields_text}
use Rattle.std.specs.Prelude.{Err}
use Rattle.text_forms.specs.Judging.{at_column, with_list, of_record, line_form}
use Rattle.text_forms.specs.BadLines.{Bad, bad_lines}

pub the_columns : map (λ (b : Bad). line_form b.line) bad_lines ≡ map (λ (b : Bad). Err (at_column b.column)) bad_lines
unfolding run_to end_from field_end field_at next_start digit_of digits_from after_zero number_in dec_within dec text_of
    keywords same common larger longest lookup keyword_of placed number_at with_second with_first pair_at last_pair
    of_pair of_list of_one after_kind shape_of after_word record_of past_entry listed_from list_of
    fields_text with_list of_record line_form
the_columns = refl
