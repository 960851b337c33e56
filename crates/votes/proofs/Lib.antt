mod Voting
