-- Puts that are made only of a key that is as it should be.
use Rattle.std.specs.Prelude.{ℕ, List, [], Option, None, Some}
use Rattle.std.specs.FinMap as fin
use Rattle.exh_calls.specs.declared.call.Call.{Call}
use Rattle.exh_calls.specs.declared.call.Call.TheVariants.{Get, Put}
use Rattle.exh_calls.specs.declared.reply.Reply.{Reply}
use Rattle.exh_calls.specs.declared.reply.Reply.TheVariants as reply
use Rattle.exh_cells.specs.PlacedFile.{PlacedFile}
use Rattle.exh_commit.specs.declared.BlockEdit.{BlockEdit}
use Rattle.exh_change.specs.PlacedLaws.{map_in}
use Rattle.exh_paged.specs.declared.put_if.KeyIs.{KeyIs}
use Rattle.exh_paged.specs.declared.put_if.KeyIs.TheVariants.{New, There}
use Rattle.exh_paged.specs.declared.put_if.PutIf.{PutIf}

-- the call to which it comes, by what its key is and the value that the key has: the put, or a get
abbrev pub call_for : KeyIs → List ℕ → List ℕ → Option (List ℕ) → Call
call_for New key value None = Put key value
call_for New key value (Some stood) = Get key
call_for There key value None = Get key
call_for There key value (Some stood) = Put key value

-- over the pairs of a file
abbrev pub call_in : PlacedFile → PutIf → Call
call_in file put = call_for put.key_is put.key put.value (fin.get (map_in file) put.key)

-- ---- how it is found out: by the reply to the put, which tells what the key was

-- the reply that is given
abbrev pub reply_kept : KeyIs → Reply → Reply
reply_kept New (reply.Was stood) = reply.Is stood
reply_kept There reply.New = reply.None
reply_kept There reply.Full = reply.None
reply_kept key_is answer = answer

-- the edits that are made
abbrev pub edits_kept : KeyIs → Reply → List BlockEdit → List BlockEdit
edits_kept New (reply.Was stood) edits = []
edits_kept There reply.New edits = []
edits_kept There reply.Full edits = []
edits_kept key_is answer edits = edits
