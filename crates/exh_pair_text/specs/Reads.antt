-- Parts of a line, as lists.
use Rattle.std.specs.Prelude.{ℕ, List, Option, Some, None, Result, Ok, Err}
use Rattle.std.specs.Borrow.{Bor}
use Rattle.std.specs.Option.{option_map}
use Rattle.exh_pair_text.specs.declared.wrong_line.WrongLine.{WrongLine}

abbrev pub cut_lists : Option (Bor (List ℕ) × Bor (List ℕ)) → Option (List ℕ × List ℕ)
cut_lists None = None
cut_lists (Some parts) = Some (parts.0.now, parts.1.now)

abbrev pub string_list : Result (Option (Bor (List ℕ))) WrongLine → Result (Option (List ℕ)) WrongLine
string_list (Ok found) = Ok (option_map (λ text. text.now) found)
string_list (Err wrong) = Err wrong
