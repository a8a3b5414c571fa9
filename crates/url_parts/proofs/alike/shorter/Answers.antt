use Rattle.std.proofs.Common.{subst, string_bytes, ◌∙◌}
use Rattle.url_parts.specs.Alike.{IsReadAs}
use Rattle.url_parts.specs.Paths.{IsPath}
use Rattle.url_parts.proofs.ReadAlike.{line_given, short_given}
use Rattle.url_parts.proofs.alike.shorter.Goals as goal

pub returns-then-not-is_path : goal.returns-then-not-is_path
returns-then-not-is_path c = rw c.from.ensures (line_given c.args.reference.now (string_bytes c.in_ok-line.line) c.in_ok-line.ensures)

pub returns-then-not-is_path-2 : goal.returns-then-not-is_path-2
returns-then-not-is_path-2 c = rw c.from-then-not-is_path-2.ensures
    (line_given c.args.reference.now (string_bytes c.in_ok-line.line) c.in_ok-line.ensures)

pub returns : goal.returns
returns c =
    let path = subst IsPath (c.as_bytes.ensures.value ∙ c.as_str.ensures.value) (c.is_path.ensures c.if-not-is_path.false) in
    let path_too = subst IsPath (c.as_bytes-2.ensures.value ∙ c.as_str-3.ensures.value) (c.is_path-2.ensures c.if-not-is_path-2.false) in
    let alike = subst (λ t. IsReadAs t (string_bytes c.in_ok-short.short)) c.as_str-2.ensures.value c.in_ok-short.ensures in
    rw c.from-2.ensures (short_given c.args.reference.now (string_bytes c.in_ok-line.line)
    (string_bytes c.in_ok-short.short) c.in_ok-line.ensures
    path alike path_too)
