use Rattle.presentation.proofs.Allowed.{counted_are_listed, each_has_longest, ends_are_counted, have_addresses, verified_are_counted}
use Rattle.presentation.proofs.laws.answers_allow_listings.Goals as goal

pub returns : goal.returns
returns c = record {
  counted = counted_are_listed;
  ends = ends_are_counted;
  verified = verified_are_counted;
  addresses = have_addresses;
  longest = each_has_longest;
}
