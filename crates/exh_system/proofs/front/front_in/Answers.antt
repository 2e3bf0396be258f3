use Rattle.std.proofs.Common.{rules, ◌≡◌, ℕ, sym, ◌∙◌, arith, Bool, true, false, IsTrue, ◌↔◌}
use Rattle.byteorder.specs.Endian.{big_from}
use Rattle.exh_direct.specs.HeaderTests.{HasMagic, IsOfVersion}
use Rattle.exh_file.specs.StampedHeader.{placed_format}
use Rattle.exh_system.proofs.Numbers.{number_in}
use Rattle.exh_system.proofs.front.front_in.Goals as goal

pub returns-clause-some : goal.returns-clause-some
returns-clause-some c =
    let first : c.read_u64.result ≡ big_from 84 8 c.args.bytes.now = c.read_u64.ensures ∙ number_in 84 16 8 c.args.bytes.now (omega arith) in
    let second : c.read_u64-2.result ≡ big_from 92 8 c.args.bytes.now = c.read_u64-2.ensures ∙ number_in 92 8 8 c.args.bytes.now (omega arith) in
    record {
      magic = search rules;
      version = search rules;
      stamp = sym first;
      before = sym second;
    }
