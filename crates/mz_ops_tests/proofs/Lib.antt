mod ToldLaws
