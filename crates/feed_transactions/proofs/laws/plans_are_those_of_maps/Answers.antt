use Rattle.feed_transactions.proofs.laws.plans_are_those_of_maps.Goals as goal

pub returns : goal.returns
returns c = λ plan map is. λ i. record { first = λ n. is.columns n i; json_columns = is.json_columns i }
