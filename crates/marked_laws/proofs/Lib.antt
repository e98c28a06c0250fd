-- The files in the order in which a reader needs them: marks, steps, invariants, laws.

-- tools: equal shapes, equality tests, roles and lists of them
pub mod Shapes
pub mod Equality
pub mod Roles
pub mod RoleLists
pub mod Moves
pub mod Tells
-- what is asked of a choreography
pub mod Proper
pub mod Premise
-- marks: how far each role has come
pub mod Constructs
pub mod Mark
pub mod Gates
pub mod Ends
pub mod Norm
-- steps of marks, and that a step of a process is one
pub mod MarkSteps
pub mod FoundParts
pub mod Acts
pub mod FoundStill
pub mod FoundHeld
pub mod Found
pub mod CanStep
-- invariants: what a step keeps
pub mod Keeps
pub mod Others
pub mod Mails
pub mod Agreeing
pub mod Groups
pub mod Orders
pub mod Stays
pub mod Keys
-- what the running choreography plays, and that it is settled
pub mod Plays
pub mod Settles
-- the network and its book
pub mod Networks
pub mod Pending
pub mod MailLemmas
pub mod Choices
pub mod Extension
-- laws
pub mod Simulate
pub mod Settlements
pub mod Goes
pub mod Whole
-- computed runs, and why each premise stands there
pub mod Examples
pub mod Refutations
