mod Onward
mod VotedOnward
