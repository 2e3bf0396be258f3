use Rattle.std.proofs.Common.{◌≡◌, ℕ, List, Option, inl, inr, ap, ◌∙◌, subst}
use Rattle.std.proofs.lemmas.Result.{IfErr-weaker, IfOk-weaker}
use Rattle.exh_keyer.specs.Pseudokey.{any_pseudokey}
use Rattle.exh_format.specs.FileVersion.{file_version}
use Rattle.exh_direct.specs.KnownBlocks.{IsHeaderAt}
use Rattle.exh_direct.specs.DirectAnswer.{FailsOnWay, FindsOnWay, NamesPage, Refuses, pseudokey_in}
use Rattle.exh_direct.proofs.Ways.{err_is}
use Rattle.exh_direct.proofs.finding.find_on_way.Goals as goal

pub returns-in_err-page-clause-refused : goal.returns-in_err-page-clause-refused
returns-in_err-page-clause-refused g c before heads =
    let known = g.B.Blocks.known c.args.blocks.now in
    let version = c.in_ok-version.version in
    let header = c.in_ok-version.header in
    let fault = c.in_err-page.field-0.0 in
    let head : IsHeaderAt (file_version version) known header = (c.args.first.now, c.requires.first, c.in_ok-version.ensures.ok) in
    let fails = c.in_err-page.ensures.err in
    err_is c.from_residual-in_err-page.result fault (Refuses known (g.B.Blocks.whole c.args.blocks.now) c.args.key.now before _) c.from_residual-in_err-page.ensures.1
    (inr (version, header, (head, g.B.Blocks.reads c.args.blocks.now, heads, inl (fails))))

pub returns-clause-found : goal.returns-clause-found
returns-clause-found g c before heads =
    let known = g.B.Blocks.known c.args.blocks.now in
    let whole = g.B.Blocks.whole c.args.blocks.now in
    let version = c.in_ok-version.version in
    let header = c.in_ok-version.header in
    let key = c.args.key.now in
    let later = c.in_ok-page.ensures.same_bytes in
    let head : IsHeaderAt (file_version version) known header = (c.args.first.now, c.requires.first, c.in_ok-version.ensures.ok) in
    let names = c.in_ok-page.ensures.ok in
    let hashed : c.pseudo-pseudokey.result ≡ pseudokey_in header key = c.pseudo-pseudokey.ensures ∙ ap (any_pseudokey header.settings.keyer) c.as_bytes.ensures.bytes in
    let named = subst (λ (pseudokey : ℕ). NamesPage (file_version version) known header pseudokey (g.B.Blocks.reads c.args.blocks.now) (g.B.Blocks.reads c.named_page.new.blocks) c.in_ok-page.page) hashed
    names in
    let counted : c.args.count ≡ whole = c.requires.whole in
    IfOk-weaker c.follow.result _ _ (λ value found. record {
      version = version;
      header = header;
      head = head;
      first = g.B.Blocks.reads c.args.blocks.now;
      between = g.B.Blocks.reads c.named_page.new.blocks;
      reads = heads;
      page = c.in_ok-page.page;
      names = named;
      found = subst (λ (known : Option (List ℕ)). FindsOnWay (file_version version) known header key whole c.in_ok-page.page (g.B.Blocks.reads c.named_page.new.blocks) (g.B.Blocks.reads c.follow.new.blocks) value) later
          (subst (λ (count : ℕ). FindsOnWay (file_version version) (g.B.Blocks.known c.named_page.new.blocks) header key count c.in_ok-page.page (g.B.Blocks.reads c.named_page.new.blocks) (g.B.Blocks.reads c.follow.new.blocks) value) counted found);
    }) c.follow.ensures.ok

pub returns-clause-refused : goal.returns-clause-refused
returns-clause-refused g c before heads =
    let known = g.B.Blocks.known c.args.blocks.now in
    let whole = g.B.Blocks.whole c.args.blocks.now in
    let version = c.in_ok-version.version in
    let header = c.in_ok-version.header in
    let key = c.args.key.now in
    let later = c.in_ok-page.ensures.same_bytes in
    let head : IsHeaderAt (file_version version) known header = (c.args.first.now, c.requires.first, c.in_ok-version.ensures.ok) in
    let names = c.in_ok-page.ensures.ok in
    let hashed : c.pseudo-pseudokey.result ≡ pseudokey_in header key = c.pseudo-pseudokey.ensures ∙ ap (any_pseudokey header.settings.keyer) c.as_bytes.ensures.bytes in
    let named = subst (λ (pseudokey : ℕ). NamesPage (file_version version) known header pseudokey (g.B.Blocks.reads c.args.blocks.now) (g.B.Blocks.reads c.named_page.new.blocks) c.in_ok-page.page) hashed
    names in
    let counted : c.args.count ≡ whole = c.requires.whole in
    IfErr-weaker c.follow.result _ _ (λ fault fails. inr (
      version,
      header,
      (
        head,
        g.B.Blocks.reads c.args.blocks.now,
        heads,
        inr (
          c.in_ok-page.page,
          g.B.Blocks.reads c.named_page.new.blocks,
          named,
          subst (λ (known : Option (List ℕ)). FailsOnWay (file_version version) known header key whole c.in_ok-page.page (g.B.Blocks.reads c.named_page.new.blocks) (g.B.Blocks.reads c.follow.new.blocks) fault) later
              (subst (λ (count : ℕ). FailsOnWay (file_version version) (g.B.Blocks.known c.named_page.new.blocks) header key count c.in_ok-page.page (g.B.Blocks.reads c.named_page.new.blocks) (g.B.Blocks.reads c.follow.new.blocks) fault) counted fails),
        ),
      ),
    )) c.follow.ensures.err
