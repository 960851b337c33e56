mod Words
mod Answers
