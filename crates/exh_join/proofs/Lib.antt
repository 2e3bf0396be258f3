-- of join_all: the least upper bound of all values
pub mod JoinedAll
-- of replicas_agree
pub mod ReplicasAgree
