-- The call that words spell, before its key and values are read.
use Rattle.exh_calls.specs.declared.call.Call.{Call}
use Rattle.exh_calls.specs.declared.call.Call.TheVariants.{Get, Put, Del, Swap}
use Rattle.exh_line.specs.declared.call_words.CallWords.{CallWords}
use Rattle.exh_line.specs.declared.call_words.CallWords.TheVariants as words

-- their call, of the bytes that each word stands for, however many
abbrev pub call_of : CallWords → Call
call_of (words.Get key) = Get key
call_of (words.Put key value) = Put key value
call_of (words.Del key) = Del key
call_of (words.Swap key old new) = Swap key old new
