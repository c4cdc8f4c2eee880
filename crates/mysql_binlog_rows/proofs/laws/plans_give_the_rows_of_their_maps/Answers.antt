use Rattle.mysql_binlog_rows.proofs.laws.plans_give_the_rows_of_their_maps.Goals as goal

pub returns : goal.returns
returns c = λ plan map is. λ i. record { plan = record { first = λ n. is.columns n i; json_columns = is.json_columns i }; database = is.database i; table = is.table i }
