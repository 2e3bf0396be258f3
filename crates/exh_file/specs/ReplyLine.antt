-- What is printed of the reply to one call over a file, and whether the call is done.
use Rattle.std.specs.Prelude.{ℕ, Bool, true, false, List}
use Rattle.exh_text.specs.Contents.{on_line}
use Rattle.exh_text.specs.ReplyText.{reply_text}
use Rattle.exh_calls.specs.declared.reply.Reply.{Reply}
use Rattle.exh_calls.specs.declared.reply.Reply.TheVariants.{Is, None as Absent, New, Was, Full, Swapped, Differs}

abbrev pub reply_line : Reply → List ℕ
reply_line reply = on_line (reply_text reply)

-- whether a reply says that the call did what it asks for, so that the file is saved
abbrev pub is_done : Reply → Bool
is_done (Is value) = false
is_done Absent = false
is_done New = true
is_done (Was value) = true
is_done Full = false
is_done Swapped = true
is_done (Differs value) = false
