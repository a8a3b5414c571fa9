mod Sentences
