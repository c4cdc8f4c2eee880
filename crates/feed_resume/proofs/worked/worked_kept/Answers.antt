use Rattle.std.proofs.Common.{refl}
use Rattle.std.specs.Fmt.{digits}
use Rattle.feed_resume.specs.Kept.{lines, commit_in, kept_back, kept}
use Rattle.feed_resume.proofs.worked.worked_kept.Goals as goal

pub returns-clause-below_38 : goal.returns-clause-below_38
unfolding digits lines commit_in kept_back kept
returns-clause-below_38 c = refl

pub returns-clause-at_38 : goal.returns-clause-at_38
unfolding digits lines commit_in kept_back kept
returns-clause-at_38 c = refl

pub returns-clause-below_76 : goal.returns-clause-below_76
unfolding digits lines commit_in kept_back kept
returns-clause-below_76 c = refl

pub returns-clause-at_76 : goal.returns-clause-at_76
unfolding digits lines commit_in kept_back kept
returns-clause-at_76 c = refl

pub returns-clause-nothing : goal.returns-clause-nothing
unfolding digits lines commit_in kept_back kept
returns-clause-nothing c = refl

pub returns-clause-line_feed : goal.returns-clause-line_feed
unfolding digits lines commit_in kept_back kept
returns-clause-line_feed c = refl

pub returns-clause-zero : goal.returns-clause-zero
unfolding digits lines commit_in kept_back kept
returns-clause-zero c = refl

pub returns-clause-leading_zeros : goal.returns-clause-leading_zeros
unfolding digits lines commit_in kept_back kept
returns-clause-leading_zeros c = refl

pub returns-clause-no_digits : goal.returns-clause-no_digits
unfolding digits lines commit_in kept_back kept
returns-clause-no_digits c = refl

pub returns-clause-greatest : goal.returns-clause-greatest
unfolding digits lines commit_in kept_back kept
returns-clause-greatest c = refl

pub returns-clause-too_great : goal.returns-clause-too_great
unfolding digits lines commit_in kept_back kept
returns-clause-too_great c = refl

pub returns-clause-truncated : goal.returns-clause-truncated
unfolding digits lines commit_in kept_back kept
returns-clause-truncated c = refl

pub returns-clause-truncated_after_another : goal.returns-clause-truncated_after_another
unfolding digits lines commit_in kept_back kept
returns-clause-truncated_after_another c = refl

pub returns-clause-more_in_the_line : goal.returns-clause-more_in_the_line
unfolding digits lines commit_in kept_back kept
returns-clause-more_in_the_line c = refl
