use Rattle.url_parts.proofs.Spellings.{stands_alone, stands_beside}
use Rattle.url_parts.proofs.laws.spelled_address.Goals as goal

pub returns-clause-beside : goal.returns-clause-beside
returns-clause-beside c = stands_beside _ _ _ _ c.as_str.ensures.address

pub returns-clause-absolute : goal.returns-clause-absolute
returns-clause-absolute c playlist = stands_alone playlist _ c.as_str.ensures.address
