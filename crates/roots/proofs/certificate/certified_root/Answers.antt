-- `roots::certificate::certified_root` meets its contract: the two differences give the remainder, and it says which number is nearest.
use Rattle.std.proofs.Common.{refl}
use Rattle.roots.proofs.RootCertificate.{certified_by_tests}
use Rattle.roots.proofs.certificate.certified_root.Goals as goal

pub returns : goal.returns
returns c =
    certified_by_tests _ c.args.guess _ _ _ _ c.args.radicand.in_range.0 c.args.radicand.in_range.1 c.requires refl c.if-first-ge2147483648.false refl c.if-second-ge1073741824.false
    c.if-remainder-guess-lt72057594037927939.false c.if-guess-remainder.false c.from-above.ensures c.from-below.ensures
