-- What is printed of a reply.
use Rattle.std.specs.Prelude.{ℕ, List, ◌++◌, codes}
use Rattle.exh_calls.specs.declared.reply.Reply.{Reply}
use Rattle.exh_calls.specs.declared.reply.Reply.TheVariants.{Is, None as Absent, New, Was, Full, Swapped, Differs}
use Rattle.exh_text.specs.Printing.{printed}

abbrev pub reply_text : Reply → List ℕ
reply_text (Is value) = codes "is " ++ printed value
reply_text Absent = codes "none"
reply_text New = codes "new"
reply_text (Was value) = codes "was " ++ printed value
reply_text Full = codes "full"
reply_text Swapped = codes "swapped"
reply_text (Differs value) = codes "differs " ++ printed value
